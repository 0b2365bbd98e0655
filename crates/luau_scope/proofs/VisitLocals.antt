-- What becomes of declarations, as code goes through them.
use Rattle.std.proofs.Common.{◌≡◌, ℕ, ◌+◌, ◌-◌, ◌≤◌, List, [], ◌∷◌, ◌++◌, length, get_or, take, drop, length-append, refl, sym, ap, ◌∙◌, arith}
use Rattle.std.specs.Prelude.{Some}
use Rattle.luau_tree.specs.declared.tree as code
use Rattle.luau_tree.specs.declared.tree.ExprKind.TheViews as part
use Rattle.luau_tree.specs.Tree as plain
use Rattle.luau_tree.specs.View.{view_bind, view_binds, view_exprs, view_maybe_type}
use Rattle.luau_scope.specs.declared.within.Within.{Within}
use Rattle.luau_scope.specs.declared.walker.Walker.{Walker}
use Rattle.luau_scope.specs.Finds as finds
use Rattle.luau_scope.specs.Steps.{after_declared, after_entries, after_entry, after_locals, after_maybe_type}
use Rattle.luau_scope.proofs.AfterLocals.{one_declared}
use Rattle.luau_scope.proofs.Layers.{bind_layer, expr_layer}
use Rattle.luau_scope.proofs.Splits.{first_of_some, tail_is}

pub locals_visit : (w : Within) (all : plain.Binds) (xs : List code.Bind.Bind) (x : code.Bind.Bind) (given values : plain.Exprs) (numbers : List ℕ) (s : Walker) → 1 ≤ length xs → x ≡ get_or xs 0 x
    → after_locals w all (view_binds xs) given values numbers s
    ≡ after_locals w all (view_binds (take (length xs - 1) (drop 1 xs))) (finds.other_values given) values (numbers ++ length s.found.locals ∷ [])
    (after_maybe_type w (view_maybe_type (part.out-Bind x).typ) (after_declared w (finds.first_value given) (view_bind x) s))
locals_visit w all xs x given values numbers s h e =
    let rest = take (length xs - 1) (drop 1 xs) in
    ap (λ (ys : List code.Bind.Bind). after_locals w all (view_binds ys) given values numbers s) (first_of_some xs x h e)
    ∙ ap (λ (b : plain.Bind). after_locals w all (plain.more_binds b (view_binds rest)) given values numbers s) (bind_layer x)
    ∙ one_declared w all (part.out-Bind x).name (part.out-Bind x).span (view_maybe_type (part.out-Bind x).typ) (view_binds rest) given values numbers s
    ∙ ap (λ (b : plain.Bind). after_locals w all (view_binds rest) (finds.other_values given) values (numbers ++ length s.found.locals ∷ [])
    (after_maybe_type w (view_maybe_type (part.out-Bind x).typ) (after_declared w (finds.first_value given) b s))) (sym (bind_layer x))

-- ## The value at a position

pub a_value : (xs : List code.Expr.Expr) (x : code.Expr.Expr) → 1 ≤ length xs → x ≡ get_or xs 0 x → Some x.id ≡ finds.first_value (view_exprs xs)
a_value xs x h e =
    sym (ap (λ (y : plain.Expr). Some (finds.id_of y)) (expr_layer x))
    ∙ sym (ap (λ (ys : List code.Expr.Expr). finds.first_value (view_exprs ys)) (first_of_some xs x h e))

-- ## Locals that come into scope

no_left : (w : Within) (own : ℕ) (binds : plain.Binds) (s : Walker) → after_entries w own binds [] s ≡ s
unfolding after_entries
no_left w own plain.no_binds s = refl
no_left w own (plain.more_binds bind rest) s = refl

pub numbers_end : (w : Within) (own : ℕ) (binds : plain.Binds) (numbers : List ℕ) (s : Walker) → numbers ≡ [] → after_entries w own binds numbers s ≡ s
numbers_end w own binds numbers s e = ap (λ (ns : List ℕ). after_entries w own binds ns s) e ∙ no_left w own binds s

pub binds_end : (w : Within) (own : ℕ) (xs : List code.Bind.Bind) (numbers : List ℕ) (s : Walker) → xs ≡ [] → after_entries w own (view_binds xs) numbers s ≡ s
unfolding after_entries
binds_end w own xs numbers s e = ap (λ (ys : List code.Bind.Bind). after_entries w own (view_binds ys) numbers s) e

pub entry_grows : (w : Within) (own : ℕ) (bind : plain.Bind) (n : ℕ) (s t : Walker) → t ≡ after_entry w own bind n s → length t.scope ≡ length s.scope + 1
unfolding after_entry
entry_grows w own bind n s t e = ap (λ (u : Walker). length u.scope) e ∙ length-append s.scope _

entered : (w : Within) (own : ℕ) (bind : plain.Bind) (rest : plain.Binds) (ns : List ℕ) (s : Walker) → 1 ≤ length ns
    → after_entries w own (plain.more_binds bind rest) ns s ≡ after_entries w (own + 1) rest (take (length ns - 1) (drop 1 ns)) (after_entry w own bind (get_or ns 0 0) s)
unfolding after_entries
entered w own bind rest [] s h = absurd (omega arith)
entered w own bind rest (n ∷ ns) s h = ap (λ (ms : List ℕ). after_entries w (own + 1) rest ms (after_entry w own bind n s)) (sym (tail_is n ns))

pub entry_visit : (w : Within) (own outside : ℕ) (xs : List code.Bind.Bind) (x : code.Bind.Bind) (ns : List ℕ) (s t : Walker) → 1 ≤ length xs → x ≡ get_or xs 0 x → 1 ≤ length ns
    → t ≡ after_entry w own (view_bind x) (get_or ns 0 0) s → own ≡ length s.scope - outside → outside ≤ length s.scope
    → after_entries w (length t.scope - outside) (view_binds (take (length xs - 1) (drop 1 xs))) (take (length ns - 1) (drop 1 ns)) t
    ≡ after_entries w (length s.scope - outside) (view_binds xs) ns s
entry_visit w own outside xs x ns s t h e k i o within =
    let rest = take (length xs - 1) (drop 1 xs) in
    let left = take (length ns - 1) (drop 1 ns) in
    let grown = entry_grows w own (view_bind x) (get_or ns 0 0) s t i in
    let count : length t.scope - outside ≡ own + 1 = omega (arith, grown, o, within) in
    ap (λ (n : ℕ). after_entries w n (view_binds rest) left t) count
    ∙ ap (λ (u : Walker). after_entries w (own + 1) (view_binds rest) left u) i
    ∙ sym (entered w own (view_bind x) (view_binds rest) ns s k)
    ∙ sym (ap (λ (ys : List code.Bind.Bind). after_entries w own (view_binds ys) ns s) (first_of_some xs x h e))
    ∙ ap (λ (n : ℕ). after_entries w n (view_binds xs) ns s) o
