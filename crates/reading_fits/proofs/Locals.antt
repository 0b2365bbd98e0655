-- The locals of bodies: what a body captures is captured, its parameters are distinct, and none always holds a builtin.
use Rattle.std.proofs.Common.{◌≡◌, ℕ, Bool, true, false, List, [], ◌∷◌, ◌++◌, refl, sym, ap, ◌∙◌, subst, inl, inr}
use Rattle.std.specs.Prelude.{◌⊎◌, Option, Some, None, if◌then◌else◌}
use Rattle.std.specs.List.{filter_map}
use Rattle.std.specs.Str.{bytes_eq}
use Rattle.luau_tree.specs.declared.position.Span.{Span}
use Rattle.luau_tree.specs.declared.names.ExprId.{ExprId}
use Rattle.luau_tree.specs.Tree.{Block, ExprKind, NilExpr, TrueExpr, FalseExpr, NumberExpr, StrExpr, Vararg, FunctionExpr, NameExpr, Index, At, Call, Method, Paren, Unary, Binary, IfElse, TableExpr, Interp, Assert, the_body, the_bind, Binds, Gens, Varargs, MaybeType}
use Rattle.luau_scope.specs.declared.reading.Use.TheVariants.{Local, Builtin, Library, Global}
use Rattle.luau_scope.specs.Names.{is_one_of, is_library, banned_alone}
use Rattle.luau_scope.specs.Found.{Means, Captures, Part, nothing, one, ◌then◌, Visible, Scope, Around, Loop, meant, same_function}
use Rattle.luau_scope.specs.Finds as finds
use Rattle.luau_scope.specs.Finds.{in_scope, in_loop, in_body, with_bind, local_here, around_module, found_in, global_use, refused}
use Rattle.luau_run.specs.ReadModule.{Use as Meaning, UseGlobal}
use Rattle.luau_run.specs.ReadFolder.{name_of, local_of, declared_by}
use Rattle.luau_run.specs.SyntaxNode.{SyntaxNode, ABody, ABind, of_body, inside}
use Rattle.module_reading.specs.Names.{meaning_of}
use Rattle.module_reading.specs.Nodes.{body_number}
use Rattle.module_reading.proofs.Lists.{Has, has_left, has_right, has_either}
use Rattle.reading_fits.proofs.Told.{Ground, IsKnown, IsLocal, Told, first, second}
use Rattle.reading_fits.proofs.Visits.{Visitor, SeenExpr, found_at, a_callee}

-- ---- what a test of nodes picks

has_some : (g : SyntaxNode → Option ℕ) (xs : List SyntaxNode) (k : SyntaxNode) (n : ℕ) → Has xs k → g k ≡ Some n → Has (filter_map g xs) n
has_some g [] k n h e = absurd h
has_some g (x ∷ xs) k n h e = by_pick (g x) refl h (λ j. has_some g xs k n j e)
  where
    by_pick : (o : Option ℕ) → g x ≡ o → Has (x ∷ xs) k → (Has xs k → Has (filter_map g xs) n) → Has (filter_map g (x ∷ xs)) n
    by_pick None q (inl j) next = cc (subst (λ (y : SyntaxNode). g y ≡ None) j q, e)
    by_pick None q (inr j) next = rw q (next j)
    by_pick (Some m) q (inl j) next = rw q (inl (let z : g k ≡ Some m = subst (λ (y : SyntaxNode). g y ≡ Some m) j q in let w : Some m ≡ Some n = sym z ∙ e in cc))
    by_pick (Some m) q (inr j) next = rw q (inr (next j))

pub some_has : (g : SyntaxNode → Option ℕ) (xs : List SyntaxNode) (n : ℕ) → Has (filter_map g xs) n → (k : SyntaxNode) × Has xs k × (g k ≡ Some n)
some_has g [] n h = absurd h
some_has g (x ∷ xs) n h = by_pick (g x) refl (later (g x) refl h) (some_has g xs n)
  where
    later : (o : Option ℕ) → g x ≡ o → Has (filter_map g (x ∷ xs)) n → (o ≡ Some n) ⊎ Has (filter_map g xs) n
    later None q j = inr (rw q at j)
    later (Some m) q j = first_or m (rw q at j)
      where
        first_or : (m : ℕ) → (m ≡ n) ⊎ Has (filter_map g xs) n → (Some m ≡ Some n) ⊎ Has (filter_map g xs) n
        first_or m (inl i) = inl (ap Some i)
        first_or m (inr i) = inr i

    by_pick : (o : Option ℕ) → g x ≡ o → (o ≡ Some n) ⊎ Has (filter_map g xs) n → (Has (filter_map g xs) n → (k : SyntaxNode) × Has xs k × (g k ≡ Some n)) → (k : SyntaxNode) × Has (x ∷ xs) k × (g k ≡ Some n)
    by_pick o q (inl e) next = (x, inl refl, q ∙ e)
    by_pick o q (inr j) next = let r = next j in (r.0, inr r.1, r.2)

-- ---- scopes

abbrev inner_or : List ℕ → Visible → Option Visible → Option Visible
inner_or name v None = if bytes_eq v.name name then Some v else None
inner_or name v (Some inner) = Some inner

pub meant_there : (scope : Scope) (name : List ℕ) (v : Visible) → meant scope name ≡ Some v → Has scope v
meant_there [] name v e = cc
meant_there (w ∷ scope) name v e = by_rest (meant scope name) e (meant_there scope name v)
  where
    by_own : (b : Bool) → (if b then Some w else None) ≡ Some v → Has (w ∷ scope) v
    by_own true q = inl (let z : w ≡ v = cc in z)
    by_own false q = cc

    by_rest : (o : Option Visible) → inner_or name w o ≡ Some v → (o ≡ Some v → Has scope v) → Has (w ∷ scope) v
    by_rest None q next = by_own (bytes_eq w.name name) q
    by_rest (Some inner) q next = inr (next q)

-- ---- around a node of a body: what is in scope is from outside, or is declared within

pub record Under (ground : Ground) (outer : Scope) (whole : List SyntaxNode) (a : Around) (part : List SyntaxNode) : Type 0 where
  pub known : (v : Visible) → Has a.scope v → IsKnown ground v.local
  pub from : (v : Visible) → Has a.scope v → Has outer v ⊎ Has (filter_map (declared_by ground.rules.reading) whole) v.local
  pub apart : (v : Visible) → Has outer v → same_function v.function a.function ≡ false
  pub there : (k : SyntaxNode) → Has part k → Has whole k

abbrev pub IsFar : Scope → List SyntaxNode → Type 0
IsFar outer whole = (v : Visible) → Has outer v → (id : ℕ) → Has (filter_map body_number whole) id → same_function v.function (Some (record { 0 = id })) ≡ false

pub under_bind : (ground : Ground) (outer : Scope) (whole : List SyntaxNode) (a : Around) (name : List ℕ) (span : Span) (type : MaybeType) (given : Option ExprId) (n : ℕ) (xs : List SyntaxNode)
    → Under ground outer whole a (ABind (the_bind name span type) ∷ []) → IsLocal ground n span given → Under ground outer whole a xs → Under ground outer whole (in_scope a (a.scope ++ local_here a name n ∷ [])) xs
under_bind ground outer whole a name span type given n xs b told u = record {
  known = λ v h. known v (has_either a.scope (local_here a name n ∷ []) v h);
  from = λ v h. from v (has_either a.scope (local_here a name n ∷ []) v h);
  apart = u.apart;
  there = u.there;
}
  where
    known : (v : Visible) → Has a.scope v ⊎ Has (local_here a name n ∷ []) v → IsKnown ground v.local
    known v (inl h) = u.known v h
    known v (inr (inl e)) = subst (λ (w : Visible). IsKnown ground w.local) e told.there
    known v (inr (inr h)) = absurd h

    from : (v : Visible) → Has a.scope v ⊎ Has (local_here a name n ∷ []) v → Has outer v ⊎ Has (filter_map (declared_by ground.rules.reading) whole) v.local
    from v (inl h) = u.from v h
    from v (inr (inl e)) = inr (subst (λ (w : Visible). Has (filter_map (declared_by ground.rules.reading) whole) w.local) e
        (has_some (declared_by ground.rules.reading) whole (ABind (the_bind name span type)) n (b.there (ABind (the_bind name span type)) (inl refl)) (ap Some told.place)))
    from v (inr (inr h)) = absurd h

pub under_left : (ground : Ground) (outer : Scope) (whole : List SyntaxNode) (a : Around) (xs ys : List SyntaxNode) → Under ground outer whole a (xs ++ ys) → Under ground outer whole a xs
under_left ground outer whole a xs ys u = record { known = u.known; from = u.from; apart = u.apart; there = λ k h. u.there k (has_left xs ys k h) }

pub under_right : (ground : Ground) (outer : Scope) (whole : List SyntaxNode) (a : Around) (xs ys : List SyntaxNode) → Under ground outer whole a (xs ++ ys) → Under ground outer whole a ys
under_right ground outer whole a xs ys u = record { known = u.known; from = u.from; apart = u.apart; there = λ k h. u.there k (has_right xs ys k h) }

pub under_loop : (ground : Ground) (outer : Scope) (whole : List SyntaxNode) (a : Around) (l : Loop) (xs : List SyntaxNode) → Under ground outer whole a xs → Under ground outer whole (in_loop a l) xs
under_loop ground outer whole a l xs u = record { known = u.known; from = u.from; apart = u.apart; there = u.there }

pub under_enter : (ground : Ground) (outer : Scope) (whole : List SyntaxNode) → IsFar outer whole → (a : Around) (id : ℕ) (has_self : Bool) (generics : Gens) (params : Binds) (vararg : Varargs) (returned : MaybeType) (code : Block) (span : Span)
    → Under ground outer whole a (of_body (the_body id has_self generics params vararg returned code span))
    → Under ground outer whole (in_body a id vararg) (inside (the_body id has_self generics params vararg returned code span))
under_enter ground outer whole far a id has_self generics params vararg returned code span u = record {
  known = u.known;
  from = u.from;
  apart = λ v h. far v h id (has_some body_number whole (ABody (the_body id has_self generics params vararg returned code span)) id (u.there (ABody (the_body id has_self generics params vararg returned code span)) (inl refl)) refl);
  there = λ k h. u.there k (inr h);
}

abbrev pub under : (ground : Ground) (outer : Scope) (whole : List SyntaxNode) → IsFar outer whole → Visitor
under ground outer whole far = record {
  ground = ground;
  Inv = Under ground outer whole;
  left = under_left ground outer whole;
  right = under_right ground outer whole;
  loop = under_loop ground outer whole;
  bind = under_bind ground outer whole;
  enter = under_enter ground outer whole far;
}

-- ---- a use of a local from outside is captured

pub global_no_local : (every : List (List ℕ)) (name : List ℕ) (x : ℕ) → local_of (Some (meaning_of (global_use every name))) ≡ Some x → ⊥
global_no_local every name x e = by_tests (is_one_of every name) (is_library every name) e
  where
    by_tests : (b c : Bool) → local_of (Some (meaning_of (if b then Builtin name else if c then Library else Global))) ≡ Some x → ⊥
    by_tests true c q = cc
    by_tests false true q = cc
    by_tests false false q = cc

capture_told : (ground : Ground) (b : Bool) (x m : ℕ) → b ≡ false → Told ground m ((if b then nothing else one (Captures x)) m) → IsKnown ground x → ground.rules.caught x ≡ true
capture_told ground true x m e t known = cc
capture_told ground false x m e t known = t.each.0 known

caught_use : (ground : Ground) (outer : Scope) (whole : List SyntaxNode) (a : Around) (part : List SyntaxNode) (id : ℕ) (span : Span) (name : List ℕ) (n x : ℕ) (o : Option Visible) → Under ground outer whole a part
    → meant a.scope name ≡ o → Told ground n (finds.of_meant a (record { 0 = id }) span name o n) → local_of (ground.rules.reading.use_of id) ≡ Some x
    → (Has (filter_map (declared_by ground.rules.reading) whole) x → ⊥) → ground.rules.caught x ≡ true
caught_use ground outer whole a part id span name n x None u e t h out =
    absurd (let said = first ground n (one (Means (record { 0 = id }) (global_use a.paths name))) (refused (banned_alone name) span) t in
    global_no_local a.paths name x (subst (λ (m : Option Meaning). local_of m ≡ Some x) said.each.0 h))
caught_use ground outer whole a part id span name n x (Some v) u e t h out =
    by_scope (u.from v (meant_there a.scope name v e))
  where
    p : Part
    p = one (Means (record { 0 = id }) (Local (record { 0 = v.local })))

    same : v.local ≡ x
    same = let said = first ground n (one (Means (record { 0 = id }) (Local (record { 0 = v.local })))) (if same_function v.function a.function then nothing else one (Captures v.local)) t in
        let z : Some v.local ≡ Some x = subst (λ (m : Option Meaning). local_of m ≡ Some x) said.each.0 h in cc

    by_scope : Has outer v ⊎ Has (filter_map (declared_by ground.rules.reading) whole) v.local → ground.rules.caught x ≡ true
    by_scope (inl j) = subst (λ (y : ℕ). ground.rules.caught y ≡ true) same
        (capture_told ground (same_function v.function a.function) v.local _ (u.apart v j)
        (second ground n (one (Means (record { 0 = id }) (Local (record { 0 = v.local })))) (if same_function v.function a.function then nothing else one (Captures v.local)) t)
        (u.known v (meant_there a.scope name v e)))
    by_scope (inr j) = absurd (out (subst (λ (y : ℕ). Has (filter_map (declared_by ground.rules.reading) whole) y) same j))

pub caught_seen : (ground : Ground) (outer : Scope) (whole : List SyntaxNode) (far : IsFar outer whole) (id : ℕ) (span : Span) (name : List ℕ) (x : ℕ) → SeenExpr (under ground outer whole far) id span (NameExpr name)
    → local_of (ground.rules.reading.use_of id) ≡ Some x → (Has (filter_map (declared_by ground.rules.reading) whole) x → ⊥) → ground.rules.caught x ≡ true
caught_seen ground outer whole far id span name x (found_at a n i t) h out = caught_use ground outer whole a _ id span name n x (meant a.scope name) i refl t h out
caught_seen ground outer whole far id span name x (a_callee e) h out = absurd (let z : local_of (Some UseGlobal) ≡ Some x = subst (λ (m : Option Meaning). local_of m ≡ Some x) e h in cc)

pub is_name : (kind : ExprKind) (name : List ℕ) → name_of kind ≡ Some name → kind ≡ NameExpr name
is_name (NameExpr n) name e = ap NameExpr (let z : n ≡ name = cc in z)
is_name NilExpr name e = cc
is_name TrueExpr name e = cc
is_name FalseExpr name e = cc
is_name (NumberExpr text) name e = cc
is_name (StrExpr bytes) name e = cc
is_name Vararg name e = cc
is_name (FunctionExpr body) name e = cc
is_name (Index base field) name e = cc
is_name (At base key) name e = cc
is_name (Call callee args) name e = cc
is_name (Method base field span args) name e = cc
is_name (Paren x) name e = cc
is_name (Unary op x) name e = cc
is_name (Binary op left right) name e = cc
is_name (IfElse arms last) name e = cc
is_name (TableExpr items) name e = cc
is_name (Interp texts parts) name e = cc
is_name (Assert x type) name e = cc
