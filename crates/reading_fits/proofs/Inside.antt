-- What holds around each node of a module: the locals in scope are known, and bodies are told apart.
use Rattle.std.proofs.Common.{◌≡◌, ℕ, ◌==◌, Bool, true, false, not, ◌||◌, List, [], ◌∷◌, ◌++◌, refl, sym, ap, ◌∙◌, subst, eqb-true, inl, inr}
use Rattle.std.specs.Prelude.{◌⊎◌, Option, Some}
use Rattle.std.specs.List.{filter_map}
use Rattle.std.proofs.lemmas.List.Elements.{filter_map-append}
use Rattle.luau_tree.specs.declared.position.Span.{Span}
use Rattle.luau_tree.specs.declared.names.ExprId.{ExprId}
use Rattle.luau_tree.specs.Tree.{Block, the_body, the_bind, Binds, Gens, Varargs, MaybeType}
use Rattle.luau_scope.specs.Found.{Visible, Around, Loop, same_function}
use Rattle.luau_scope.specs.Finds.{in_scope, in_loop, in_body, local_here}
use Rattle.luau_run.specs.ReadFolder.{is_among, are_distinct, declared_by}
use Rattle.luau_run.specs.SyntaxNode.{SyntaxNode, ABind, of_body, of_binds, of_block, inside}
use Rattle.module_reading.specs.Nodes.{body_number}
use Rattle.module_reading.proofs.Lists.{Has, has_left, has_right, has_either, and_parts, and_both, or_parts, is_not, not_true, among_has}
use Rattle.reading_fits.proofs.Told.{Ground, IsKnown, IsLocal}
use Rattle.reading_fits.proofs.Visits.{Visitor}

-- ---- distinct numbers of two lists

among_left : (n : ℕ) (xs ys : List ℕ) → is_among n (xs ++ ys) ≡ false → is_among n xs ≡ false
among_left n [] ys e = refl
among_left n (x ∷ xs) ys e = let p = or_parts (n == x) (is_among n (xs ++ ys)) e in ap (λ b. b || is_among n xs) p.0 ∙ among_left n xs ys p.1

distinct_left : (xs ys : List ℕ) → are_distinct (xs ++ ys) ≡ true → are_distinct xs ≡ true
distinct_left [] ys d = refl
distinct_left (x ∷ xs) ys d =
    let p = and_parts (not (is_among x (xs ++ ys))) (are_distinct (xs ++ ys)) d in
    and_both (not (is_among x xs)) (are_distinct xs) (is_not (is_among x xs) (among_left x xs ys (not_true (is_among x (xs ++ ys)) p.0))) (distinct_left xs ys p.1)

distinct_right : (xs ys : List ℕ) → are_distinct (xs ++ ys) ≡ true → are_distinct ys ≡ true
distinct_right [] ys d = d
distinct_right (x ∷ xs) ys d = distinct_right xs ys (and_parts (not (is_among x (xs ++ ys))) (are_distinct (xs ++ ys)) d).1

-- ---- around a node

pub record Main (ground : Ground) (whole : List SyntaxNode) (a : Around) (nodes : List SyntaxNode) : Type 0 where
  pub known : (v : Visible) → Has a.scope v → IsKnown ground v.local
  pub far : (v : Visible) → Has a.scope v → (id : ℕ) → Has (filter_map body_number nodes) id → same_function v.function (Some (record { 0 = id })) ≡ false
  pub own : (id : ℕ) → Has (filter_map body_number nodes) id → same_function a.function (Some (record { 0 = id })) ≡ false
  pub bodies : are_distinct (filter_map body_number nodes) ≡ true
  pub binds : are_distinct (filter_map (declared_by ground.rules.reading) nodes) ≡ true
  pub there : (k : SyntaxNode) → Has nodes k → Has whole k

some_left : (g : SyntaxNode → Option ℕ) (xs ys : List SyntaxNode) (n : ℕ) → Has (filter_map g xs) n → Has (filter_map g (xs ++ ys)) n
some_left g xs ys n h = subst (λ (ns : List ℕ). Has ns n) (sym (filter_map-append g xs ys)) (has_left (filter_map g xs) (filter_map g ys) n h)

some_right : (g : SyntaxNode → Option ℕ) (xs ys : List SyntaxNode) (n : ℕ) → Has (filter_map g ys) n → Has (filter_map g (xs ++ ys)) n
some_right g xs ys n h = subst (λ (ns : List ℕ). Has ns n) (sym (filter_map-append g xs ys)) (has_right (filter_map g xs) (filter_map g ys) n h)

pub apart_left : (g : SyntaxNode → Option ℕ) (xs ys : List SyntaxNode) → are_distinct (filter_map g (xs ++ ys)) ≡ true → are_distinct (filter_map g xs) ≡ true
apart_left g xs ys d = distinct_left (filter_map g xs) (filter_map g ys) (ap are_distinct (sym (filter_map-append g xs ys)) ∙ d)

apart_right : (g : SyntaxNode → Option ℕ) (xs ys : List SyntaxNode) → are_distinct (filter_map g (xs ++ ys)) ≡ true → are_distinct (filter_map g ys) ≡ true
apart_right g xs ys d = distinct_right (filter_map g xs) (filter_map g ys) (ap are_distinct (sym (filter_map-append g xs ys)) ∙ d)

pub main_left : (ground : Ground) (whole : List SyntaxNode) (a : Around) (xs ys : List SyntaxNode) → Main ground whole a (xs ++ ys) → Main ground whole a xs
main_left ground whole a xs ys m = record {
  known = m.known;
  far = λ v h id k. m.far v h id (some_left body_number xs ys id k);
  own = λ id k. m.own id (some_left body_number xs ys id k);
  bodies = apart_left body_number xs ys m.bodies;
  binds = apart_left (declared_by ground.rules.reading) xs ys m.binds;
  there = λ k h. m.there k (has_left xs ys k h);
}

pub main_right : (ground : Ground) (whole : List SyntaxNode) (a : Around) (xs ys : List SyntaxNode) → Main ground whole a (xs ++ ys) → Main ground whole a ys
main_right ground whole a xs ys m = record {
  known = m.known;
  far = λ v h id k. m.far v h id (some_right body_number xs ys id k);
  own = λ id k. m.own id (some_right body_number xs ys id k);
  bodies = apart_right body_number xs ys m.bodies;
  binds = apart_right (declared_by ground.rules.reading) xs ys m.binds;
  there = λ k h. m.there k (has_right xs ys k h);
}

pub main_loop : (ground : Ground) (whole : List SyntaxNode) (a : Around) (l : Loop) (xs : List SyntaxNode) → Main ground whole a xs → Main ground whole (in_loop a l) xs
main_loop ground whole a l xs m = record { known = m.known; far = m.far; own = m.own; bodies = m.bodies; binds = m.binds; there = m.there }

pub main_bind : (ground : Ground) (whole : List SyntaxNode) (a : Around) (name : List ℕ) (span : Span) (type : MaybeType) (given : Option ExprId) (n : ℕ) (xs : List SyntaxNode)
    → Main ground whole a (ABind (the_bind name span type) ∷ []) → IsLocal ground n span given → Main ground whole a xs → Main ground whole (in_scope a (a.scope ++ local_here a name n ∷ [])) xs
main_bind ground whole a name span type given n xs b told m = record {
  known = λ v h. known v (has_either a.scope (local_here a name n ∷ []) v h);
  far = λ v h. far v (has_either a.scope (local_here a name n ∷ []) v h);
  own = m.own;
  bodies = m.bodies;
  binds = m.binds;
  there = m.there;
}
  where
    known : (v : Visible) → Has a.scope v ⊎ Has (local_here a name n ∷ []) v → IsKnown ground v.local
    known v (inl h) = m.known v h
    known v (inr (inl e)) = subst (λ (w : Visible). IsKnown ground w.local) e told.there
    known v (inr (inr h)) = absurd h

    far : (v : Visible) → Has a.scope v ⊎ Has (local_here a name n ∷ []) v → (id : ℕ) → Has (filter_map body_number xs) id → same_function v.function (Some (record { 0 = id })) ≡ false
    far v (inl h) id k = m.far v h id k
    far v (inr (inl e)) id k = subst (λ (w : Visible). same_function w.function (Some (record { 0 = id })) ≡ false) e (m.own id k)
    far v (inr (inr h)) id k = absurd h

-- a body's number is none of the bodies within
other_number : (id n : ℕ) (ns : List ℕ) → are_distinct (id ∷ ns) ≡ true → Has ns n → (id == n) ≡ false
other_number id n ns d h = by_test (id == n) refl
  where
    by_test : (b : Bool) → (id == n) ≡ b → (id == n) ≡ false
    by_test false e = e
    by_test true e = absurd (
        let t : is_among id ns ≡ true = among_has id ns (subst (λ (k : ℕ). Has ns k) (sym (eqb-true id n e)) h) in
        let f : is_among id ns ≡ false = not_true (is_among id ns) (and_parts (not (is_among id ns)) (are_distinct ns) d).0 in cc)

pub main_enter : (ground : Ground) (whole : List SyntaxNode) (a : Around) (id : ℕ) (has_self : Bool) (generics : Gens) (params : Binds) (vararg : Varargs) (returned : MaybeType) (code : Block) (span : Span)
    → Main ground whole a (of_body (the_body id has_self generics params vararg returned code span)) → Main ground whole (in_body a id vararg) (inside (the_body id has_self generics params vararg returned code span))
main_enter ground whole a id has_self generics params vararg returned code span m = record {
  known = m.known;
  far = λ v h n k. m.far v h n (inr k);
  own = λ n k. other_number id n (filter_map body_number (of_binds params ++ of_block code)) m.bodies k;
  bodies = (and_parts (not (is_among id (filter_map body_number (of_binds params ++ of_block code)))) (are_distinct (filter_map body_number (of_binds params ++ of_block code))) m.bodies).1;
  binds = m.binds;
  there = λ k h. m.there k (inr h);
}

abbrev pub main : Ground → (whole : List SyntaxNode) → Visitor
main ground whole = record {
  ground = ground;
  Inv = Main ground whole;
  left = main_left ground whole;
  right = main_right ground whole;
  loop = main_loop ground whole;
  bind = main_bind ground whole;
  enter = main_enter ground whole;
}
