-- What becomes of declarations, of targets and of a call.
use Rattle.std.proofs.Common.{◌≡◌, ℕ, ◌+◌, Bool, true, false, List, [], ◌∷◌, ◌++◌, length, refl, sym, ap, ◌∙◌, append_assoc}
use Rattle.std.proofs.lemmas.List.{append-nil}
use Rattle.std.specs.Prelude.{Option, None}
use Rattle.std.specs.Option.{is_some}
use Rattle.luau_tree.specs.declared.position.Span.{Span}
use Rattle.luau_tree.specs.declared.names.ExprId.{ExprId}
use Rattle.luau_tree.specs.Tree as plain
use Rattle.luau_scope.specs.declared.within.Within.{Within}
use Rattle.luau_scope.specs.declared.walker.Walker.{Walker}
use Rattle.luau_scope.specs.declared.findings.Findings.{Findings}
use Rattle.luau_scope.specs.Found.{Around, Part, Scope, join, nothing, declarations, ◌then◌}
use Rattle.luau_scope.specs.Finds as finds
use Rattle.luau_scope.specs.Steps.{after_aim, after_aims, after_call, after_declared, after_enter, after_entries, after_entry, after_expr, after_exprs, after_locals, after_maybe_type, after_own, after_params, after_targets, added, after_part, around_in, numbers_of, with_part}
use Rattle.luau_scope.proofs.Walk.{after_join, locals_added, scope_and_join, with_join}

-- ## Calls

static_call : (is_static : Bool) (w : Within) (callee : plain.Expr) (args : plain.Exprs) (a : Part) (s : Walker)
    → after_part (join (join a (finds.unless is_static (finds.of_expr (around_in s w) callee))) (finds.of_exprs (around_in s w) args)) s
    ≡ after_exprs w args (elim is_static as (λ _. Walker) [ true ↦ after_part a s | false ↦ after_expr w callee (after_part a s) ])
unfolding after_exprs after_expr added
static_call true w callee args a s = after_join _ _ s ∙ ap (after_part (finds.of_exprs (around_in s w) args)) (after_join a nothing s)
static_call false w callee args a s = after_join _ _ s ∙ ap (after_part (finds.of_exprs (around_in s w) args)) (after_join a (finds.of_expr (around_in s w) callee) s)

-- the part of a call that is a static require's
abbrev pub static_part : Around → ExprId → Span → plain.Expr → plain.Exprs → Part
static_part a at span callee args = finds.of_static (finds.required_way a (finds.kind_of callee) args) at span (finds.id_of callee)

pub call_by : (w : Within) (at : ExprId) (span : Span) (callee : plain.Expr) (args : plain.Exprs) (s : Walker)
    → after_call w at span callee args s ≡ after_exprs w args (elim (is_some (finds.required_way (around_in s w) (finds.kind_of callee) args)) as (λ _. Walker)
    [ true ↦ after_part (static_part (around_in s w) at span callee args) s | false ↦ after_expr w callee (after_part (static_part (around_in s w) at span callee args) s) ])
unfolding after_call
call_by w at span callee args s = static_call (is_some (finds.required_way (around_in s w) (finds.kind_of callee) args)) w callee args (static_part (around_in s w) at span callee args) s

pub static_require : (w : Within) (at : ExprId) (span : Span) (callee : plain.Expr) (args : plain.Exprs) (s : Walker)
    → is_some (finds.required_way (around_in s w) (finds.kind_of callee) args) ≡ true
    → after_call w at span callee args s ≡ after_exprs w args (after_part (static_part (around_in s w) at span callee args) s)
static_require w at span callee args s e = rw e at (call_by w at span callee args s)

pub other_call : (w : Within) (at : ExprId) (span : Span) (callee : plain.Expr) (args : plain.Exprs) (s : Walker)
    → is_some (finds.required_way (around_in s w) (finds.kind_of callee) args) ≡ false
    → after_call w at span callee args s ≡ after_exprs w args (after_expr w callee (after_part (static_part (around_in s w) at span callee args) s))
other_call w at span callee args s e = rw e at (call_by w at span callee args s)

-- ## Targets

pub no_targets : (w : Within) (earlier : List ℕ) (s : Walker) → after_targets w earlier plain.no_exprs s ≡ s
unfolding after_targets added
no_targets w earlier s = refl

pub more_targets : (w : Within) (earlier : List ℕ) (e : plain.Expr) (rest : plain.Exprs) (s : Walker)
    → after_targets w earlier (plain.more_exprs e rest) s ≡ after_aims w earlier e rest (after_expr w e s)
unfolding after_targets after_aims after_aim after_expr
more_targets w earlier e rest s = after_join _ _ s ∙ after_join _ _ (after_expr w e s)

-- ## Parameters

-- a declaration that is in scope from its own name on, with its type
pub own_found : (w : Within) (name : List ℕ) (span : Span) (typ : plain.MaybeType) (s : Walker)
    → after_maybe_type w typ (after_own w (plain.the_bind name span typ) s)
    ≡ record s {
      scope = finds.with_bind (around_in s w) (plain.the_bind name span typ) (length s.found.locals);
      found = with_part (finds.of_own_bind (around_in s w) (plain.the_bind name span typ)) s.found;
    }
unfolding after_maybe_type after_own after_entry after_declared
own_found w name span typ s =
    let a = around_in s w in
    let scope = finds.with_bind a (plain.the_bind name span typ) (length s.found.locals) in
    let declared = finds.declared_as a None (plain.the_bind name span typ) in
    let entry = finds.of_entry (finds.own_locals a) span in
    let written = finds.of_maybe_type (finds.in_scope a scope) typ in
    sym (ap (λ (f : Findings). record s { scope = scope; found = f })
    (with_join declared (join entry written) s.found ∙ with_join entry written (with_part declared s.found)))

pub no_params : (w : Within) (s : Walker) → after_params w plain.no_binds s ≡ s
unfolding after_params added
no_params w s = refl

pub more_params : (w : Within) (name : List ℕ) (span : Span) (typ : plain.MaybeType) (rest : plain.Binds) (s : Walker)
    → after_params w (plain.more_binds (plain.the_bind name span typ) rest) s
    ≡ after_params w rest (after_maybe_type w typ (after_own w (plain.the_bind name span typ) s))
unfolding after_params
more_params w name span typ rest s =
    let a = around_in s w in
    let bind = plain.the_bind name span typ in
    let inner = finds.in_scope a (finds.with_bind a bind (length s.found.locals)) in
    scope_and_join (finds.of_own_bind a bind) (finds.of_params inner rest) (finds.behind_params inner rest) s
    ∙ ap (after_params w rest) (sym (own_found w name span typ s))

-- ## Locals

-- what is around plays a part by its function alone
pub entries_found : (w : Within) (a : Around) (own : ℕ) (binds : plain.Binds) (n : ℕ) (s : Walker) → a.function ≡ w.function
    → after_entries w own binds (numbers_of a binds n) s
    ≡ record s { scope = s.scope ++ finds.numbered a binds n; found = with_part (finds.of_entries own binds) s.found }
unfolding after_entries after_entry added
entries_found w a own plain.no_binds n s e = ap (λ (scope : Scope). record s { scope = scope }) (sym (append-nil s.scope))
entries_found w a own (plain.more_binds bind rest) n s e =
    let after = n + declarations (finds.of_bind a None bind n) in
    let entered = after_entry w own bind n s in
    entries_found w a (own + 1) rest after entered e
    ∙ ap (λ (f : Findings). record s { scope = entered.scope ++ finds.numbered a rest after; found = f }) (sym (with_join (finds.of_entry own (finds.declared_span bind)) (finds.of_entries (own + 1) rest) s.found))
    ∙ ap (λ (scope : Scope). record s { scope = scope; found = with_part (finds.of_entries own (plain.more_binds bind rest)) s.found })
    (append_assoc s.scope (finds.local_here (around_in s w) (finds.declared_name bind) n ∷ []) (finds.numbered a rest after) ∙ ap (λ f. s.scope ++ record { name = finds.declared_name bind; local = n; function = f } ∷ finds.numbered a rest after) (sym e))

same_declarations : (a : Around) (given : Option ExprId) (name : List ℕ) (span : Span) (typ : plain.MaybeType) (n : ℕ)
    → declarations (finds.of_bind a given (plain.the_bind name span typ) n) ≡ declarations (finds.of_bind a None (plain.the_bind name span typ) n)
unfolding join
same_declarations a given name span typ n = refl

-- a declaration and its type
pub bind_found : (w : Within) (given : Option ExprId) (name : List ℕ) (span : Span) (typ : plain.MaybeType) (s : Walker)
    → after_maybe_type w typ (after_declared w given (plain.the_bind name span typ) s) ≡ after_part (finds.of_bind (around_in s w) given (plain.the_bind name span typ)) s
unfolding after_maybe_type after_declared
bind_found w given name span typ s = sym (after_join _ _ s)

pub all_declared : (w : Within) (all : plain.Binds) (given values : plain.Exprs) (numbers : List ℕ) (s : Walker)
    → after_locals w all plain.no_binds given values numbers s ≡ after_enter w all numbers (after_exprs w values s)
unfolding after_locals after_exprs added
all_declared w all given values numbers s =
    ap (λ (ns : List ℕ). after_enter w all ns (after_part (join nothing (finds.of_exprs (around_in s w) values)) s)) (append-nil numbers)
    ∙ ap (after_enter w all numbers) (after_join nothing (finds.of_exprs (around_in s w) values) s)

pub one_declared : (w : Within) (all : plain.Binds) (name : List ℕ) (span : Span) (typ : plain.MaybeType) (rest : plain.Binds) (given values : plain.Exprs) (numbers : List ℕ) (s : Walker)
    → after_locals w all (plain.more_binds (plain.the_bind name span typ) rest) given values numbers s
    ≡ after_locals w all rest (finds.other_values given) values (numbers ++ length s.found.locals ∷ [])
    (after_maybe_type w typ (after_declared w (finds.first_value given) (plain.the_bind name span typ) s))
unfolding after_locals
one_declared w all name span typ rest given values numbers s =
    let a = around_in s w in
    let bind = plain.the_bind name span typ in
    let first = finds.of_bind a (finds.first_value given) bind in
    let others = finds.of_binds a rest (finds.other_values given) in
    let later = finds.of_exprs a values in
    let n = length s.found.locals in
    let after = n + declarations (finds.of_bind a None bind n) in
    let t = after_part first s in
    let same : after ≡ length t.found.locals =
    ap (λ (k : ℕ). n + k) (sym (same_declarations a (finds.first_value given) name span typ n)) ∙ sym (locals_added (first n) s.found) in
    ap (after_enter w all (numbers ++ n ∷ numbers_of a rest after))
    (after_join (join first others) later s ∙ ap (after_part later) (after_join first others s) ∙ sym (after_join others later t))
    ∙ ap (λ (m : ℕ). after_enter w all (numbers ++ n ∷ numbers_of a rest m) (after_part (join others later) t)) same
    ∙ ap (λ (ns : List ℕ). after_enter w all ns (after_part (join others later) t)) (sym (append_assoc numbers (n ∷ []) (numbers_of a rest (length t.found.locals))))
    ∙ ap (λ (u : Walker). after_enter w all ((numbers ++ n ∷ []) ++ numbers_of (around_in u w) rest (length u.found.locals)) (after_part (join (finds.of_binds (around_in u w) rest (finds.other_values given)) (finds.of_exprs (around_in u w) values)) u))
    (sym (bind_found w (finds.first_value given) name span typ s))

-- the locals of a statement, when they have come into scope
pub locals_found : (w : Within) (binds : plain.Binds) (given values : plain.Exprs) (s : Walker)
    → after_locals w binds binds given values [] s
    ≡ record s {
      scope = s.scope ++ finds.numbered (around_in s w) binds (length s.found.locals);
      found = with_part (finds.of_binds (around_in s w) binds given then finds.of_exprs (around_in s w) values then finds.of_entries (finds.own_locals (around_in s w)) binds) s.found;
    }
unfolding after_locals after_enter
locals_found w binds given values s =
    let a = around_in s w in
    let first = finds.of_binds a binds given in
    let later = finds.of_exprs a values in
    let entries = finds.of_entries (finds.own_locals a) binds in
    let scope = s.scope ++ finds.numbered a binds (length s.found.locals) in
    entries_found w a (finds.own_locals a) binds (length s.found.locals) (after_part (join first later) s) refl
    ∙ ap (λ (f : Findings). record s { scope = scope; found = f })
    (ap (with_part entries) (with_join first later s.found) ∙ sym (with_join later entries (with_part first s.found)) ∙ sym (with_join first (join later entries) s.found))

-- one local that comes into scope
pub one_entry : (w : Within) (bind : plain.Bind) (n : ℕ) (s : Walker) → after_enter w (plain.more_binds bind plain.no_binds) (n ∷ []) s ≡ after_entry w (finds.own_locals (around_in s w)) bind n s
unfolding after_enter after_entries
one_entry w bind n s = refl
