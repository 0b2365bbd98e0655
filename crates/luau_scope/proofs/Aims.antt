-- What becomes of a target of an assignment.
use Rattle.std.proofs.Common.{◌≡◌, ℕ, Bool, false, List, [], ◌∷◌, get_or, Result, Ok, Err, refl, sym, ap, ◌∙◌}
use Rattle.std.specs.Prelude.{Option, Some, None, IfOk, option_map}
use Rattle.std.specs.Option.{option_to_list}
use Rattle.luau_tree.specs.declared.position.Span.{Span}
use Rattle.luau_tree.specs.declared.tree as code
use Rattle.luau_tree.specs.Tree as plain
use Rattle.luau_tree.specs.View.{view_expr}
use Rattle.luau_scope.specs.declared.scope.Held.{Held}
use Rattle.luau_scope.specs.declared.within.Within.{Within}
use Rattle.luau_scope.specs.declared.walker.Walker.{Walker}
use Rattle.luau_scope.specs.declared.refusal.Refusal.TheVariants.{AssignedBuiltin, RepeatedTarget}
use Rattle.luau_scope.specs.Found.{Around, Assigns, Visible, meant}
use Rattle.luau_scope.specs.Finds as finds
use Rattle.luau_scope.specs.InScope.{held_of}
use Rattle.luau_scope.specs.Locals.{is_among}
use Rattle.luau_scope.specs.Steps.{added, after_aim, after_named, after_part, around_in, name_in, step}
use Rattle.luau_scope.proofs.Layers.{expr_layer}
use Rattle.luau_scope.proofs.NameForms.{fixed_by_name, local_by_name, named_fixed, named_local}
use Rattle.luau_scope.proofs.Walk.{after_join}

pub if_same : {A E : Type 0} (r : Result A E) (a b : A) → IfOk r (λ x. x ≡ a) → a ≡ b → IfOk r (λ x. x ≡ b)
if_same (Ok x) a b h e = h ∙ e
if_same (Err x) a b h e = tt

pub span_seen : (x : code.Expr.Expr) → finds.span_of (view_expr x) ≡ x.span
span_seen x = ap finds.span_of (expr_layer x)

-- ## The local that a target is

pub no_target : (a : Around) (e : plain.Expr) → None ≡ name_in (finds.kind_of e) → [] ≡ finds.target_local a e
no_target a e h = sym (ap finds.number_of (local_by_name a (finds.kind_of e) ∙ ap (named_local a) (sym h)))

held_number : (o : Option Visible) (h : Option Held) → h ≡ option_map held_of o → option_to_list (option_map (λ (x : Held). x.local) h) ≡ finds.number_of o
held_number None h e = ap (λ (x : Option Held). option_to_list (option_map (λ (y : Held). y.local) x)) e
held_number (Some v) h e = ap (λ (x : Option Held). option_to_list (option_map (λ (y : Held). y.local) x)) e

pub named_target : (a : Around) (e : plain.Expr) (name : List ℕ) (held : Option Held) → Some name ≡ name_in (finds.kind_of e) → held ≡ option_map held_of (meant a.scope name)
    → option_to_list (option_map (λ (x : Held). x.local) held) ≡ finds.target_local a e
named_target a e name held h m = held_number (meant a.scope name) held m ∙ sym (ap finds.number_of (local_by_name a (finds.kind_of e) ∙ ap (named_local a) (sym h)))

-- ## Whether it is a builtin

pub no_builtin : (a : Around) (kind : plain.ExprKind) → None ≡ name_in kind → false ≡ finds.names_builtin a kind
no_builtin a kind h = sym (fixed_by_name a kind ∙ ap (named_fixed a) (sym h))

pub named_builtin : (a : Around) (kind : plain.ExprKind) (name : List ℕ) → Some name ≡ name_in kind → finds.is_fixed a name ≡ finds.names_builtin a kind
named_builtin a kind name h = sym (fixed_by_name a kind ∙ ap (named_fixed a) (sym h))

-- ## What is found

-- the rest of a target, where it is no local and where it is one
unassigned : (o : Option Visible) (earlier : List ℕ) (span : Span) (s : Walker) → [] ≡ finds.number_of o → after_part (finds.assigned earlier o span) s ≡ s
unfolding added
unassigned None earlier span s h = refl
unassigned (Some v) earlier span s h = let k : [] ≡ v.local ∷ [] = h in absurd (cc k)

assigned_local : (o : Option Visible) (local : ℕ) (earlier : List ℕ) (span : Span) (s : Walker) → local ∷ [] ≡ finds.number_of o
    → after_part (finds.assigned earlier o span) s ≡ after_part (finds.refused_if (is_among local earlier) RepeatedTarget span) (record s { found = step (Assigns local) s.found })
unfolding added
assigned_local None local earlier span s h = let k : local ∷ [] ≡ [] = h in absurd (cc k)
assigned_local (Some v) local earlier span s h =
    after_join _ _ s
    ∙ ap (λ (n : ℕ). after_part (finds.refused_if (is_among n earlier) RepeatedTarget span) (record s { found = step (Assigns n) s.found })) (sym (ap (λ (xs : List ℕ). get_or xs 0 0) h))

pub aim_elsewhere : (w : Within) (earlier : List ℕ) (e : plain.Expr) (s t : Walker)
    → t ≡ after_part (finds.refused_if (finds.touches_builtin (around_in s w) (finds.kind_of e)) AssignedBuiltin (finds.span_of e)) s
    → [] ≡ finds.target_local (around_in t w) e → t ≡ after_aim w earlier e s
unfolding after_aim
aim_elsewhere w earlier e s t h n =
    let a = around_in s w in
    let m : [] ≡ finds.target_local a e = n ∙ ap (λ (u : Walker). finds.target_local (around_in u w) e) h in
    h ∙ sym (unassigned (finds.local_of a (finds.kind_of e)) earlier (finds.span_of e) _ m) ∙ sym (after_join _ _ s)

pub aim_local : (w : Within) (earlier : List ℕ) (e : plain.Expr) (local : ℕ) (s t : Walker)
    → t ≡ after_part (finds.refused_if (finds.touches_builtin (around_in s w) (finds.kind_of e)) AssignedBuiltin (finds.span_of e)) s
    → local ∷ [] ≡ finds.target_local (around_in t w) e
    → after_part (finds.refused_if (is_among local earlier) RepeatedTarget (finds.span_of e)) (record t { found = step (Assigns local) t.found }) ≡ after_aim w earlier e s
unfolding after_aim
aim_local w earlier e local s t h n =
    let a = around_in s w in
    let m : local ∷ [] ≡ finds.target_local a e = n ∙ ap (λ (u : Walker). finds.target_local (around_in u w) e) h in
    ap (λ (u : Walker). after_part (finds.refused_if (is_among local earlier) RepeatedTarget (finds.span_of e)) (record u { found = step (Assigns local) u.found })) h
    ∙ sym (assigned_local (finds.local_of a (finds.kind_of e)) local earlier (finds.span_of e) _ m)
    ∙ sym (after_join _ _ s)

-- a target that is a builtin is refused
pub target_refused : (w : Within) (x : code.Expr.Expr) (touches : Bool) (s t : Walker) → t ≡ after_part (finds.refused_if touches AssignedBuiltin x.span) s
    → touches ≡ finds.touches_builtin (around_in s w) (finds.kind_of (view_expr x))
    → t ≡ after_part (finds.refused_if (finds.touches_builtin (around_in s w) (finds.kind_of (view_expr x))) AssignedBuiltin (finds.span_of (view_expr x))) s
target_refused w x touches s t h e =
    h ∙ ap (λ (b : Bool). after_part (finds.refused_if b AssignedBuiltin x.span) s) e
    ∙ ap (λ (span : Span). after_part (finds.refused_if (finds.touches_builtin (around_in s w) (finds.kind_of (view_expr x))) AssignedBuiltin span) s) (sym (span_seen x))

-- the name of a function statement
pub named_alone : (w : Within) (path : plain.Expr) (s : Walker) → after_aim w [] path s ≡ after_named w path None s
unfolding after_aim after_named
named_alone w path s = refl

pub named_method : (w : Within) (path : plain.Expr) (method : List ℕ) (s : Walker)
    → after_part (finds.refused_if (finds.names_builtin (around_in s w) (finds.kind_of path)) AssignedBuiltin (finds.span_of path)) s ≡ after_named w path (Some method) s
unfolding after_named
named_method w path method s = refl
