-- Which members sets in order have.
use Rattle.std.proofs.Common.{◌≡◌, Bool, true, false, not, List, [], ◌∷◌, ◌++◌, refl, sym, ap, ◌∙◌}
use Rattle.std.specs.Prelude.{◌||◌, ◌&&◌, filter}
use Rattle.std.specs.declared.cmp.Ordering.{Ordering}
use Rattle.std.specs.declared.cmp.Ordering.TheVariants.{Less, Equal, Greater}
use Rattle.std.specs.Ordering.{is_eq}
use Rattle.std.specs.Cmp.{IsTotalOrder}
use Rattle.std.proofs.lemmas.Cmp.{alike_right}
use Rattle.type_arena.specs.Term.{Members, only, all_but}
use Rattle.type_normal.specs.Members.{by_order, put, in_order, has_member, common, less, is_member, either_set, both_sets, outside}

pub or_assoc : (a b c : Bool) → (a || b) || c ≡ a || (b || c)
or_assoc true b c = refl
or_assoc false b c = refl

pub or_comm : (a b : Bool) → a || b ≡ b || a
or_comm true true = refl
or_comm true false = refl
or_comm false true = refl
or_comm false false = refl

pub or_false : (a : Bool) → a || false ≡ a
or_false true = refl
or_false false = refl

pub and_true : (a : Bool) → a && true ≡ a
and_true true = refl
and_true false = refl

pub and_false : (a : Bool) → a && false ≡ false
and_false true = refl
and_false false = refl

pub and_comm : (a b : Bool) → a && b ≡ b && a
and_comm true true = refl
and_comm true false = refl
and_comm false true = refl
and_comm false false = refl

pub not_not : (a : Bool) → not (not a) ≡ a
not_not true = refl
not_not false = refl

pub or_middle : (a b c : Bool) → a || (b || c) ≡ b || (a || c)
or_middle true true c = refl
or_middle true false c = refl
or_middle false true c = refl
or_middle false false c = refl

pub or_twice : (a c : Bool) → a || c ≡ a || (a || c)
or_twice true c = refl
or_twice false c = refl

module _ {X : Type 0} (cmp : X → X → Ordering) (order : IsTotalOrder cmp) where
  has-put_by : (x y z : X) (zs : List X) (o : Ordering) → cmp y z ≡ o → has_member cmp x (put cmp y zs) ≡ is_eq (cmp x y) || has_member cmp x zs
      → has_member cmp x (by_order o (y ∷ z ∷ zs) (z ∷ zs) (z ∷ put cmp y zs)) ≡ is_eq (cmp x y) || (is_eq (cmp x z) || has_member cmp x zs)
  has-put_by x y z zs Less e ih = refl
  has-put_by x y z zs Equal e ih = rw (alike_right order y z x e) (or_twice (is_eq (cmp x z)) (has_member cmp x zs))
  has-put_by x y z zs Greater e ih = rw ih (or_middle (is_eq (cmp x z)) (is_eq (cmp x y)) (has_member cmp x zs))

  pub has-put : (x y : X) (ys : List X) → has_member cmp x (put cmp y ys) ≡ is_eq (cmp x y) || has_member cmp x ys
  has-put x y [] = refl
  has-put x y (z ∷ zs) = has-put_by x y z zs (cmp y z) refl (has-put x y zs)

  pub has-in_order : (x : X) (xs : List X) → has_member cmp x (in_order cmp xs) ≡ has_member cmp x xs
  has-in_order x [] = refl
  has-in_order x (y ∷ ys) = has-put x y (in_order cmp ys) ∙ ap (λ (b : Bool). is_eq (cmp x y) || b) (has-in_order x ys)

  pub has-append : (x : X) (xs ys : List X) → has_member cmp x (xs ++ ys) ≡ has_member cmp x xs || has_member cmp x ys
  has-append x [] ys = refl
  has-append x (y ∷ xs) ys = ap (λ (b : Bool). is_eq (cmp x y) || b) (has-append x xs ys) ∙ sym (or_assoc (is_eq (cmp x y)) (has_member cmp x xs) (has_member cmp x ys))

  -- what counts as one has the same lists
  pub has-same : (x y : X) → cmp x y ≡ Equal → (ys : List X) → has_member cmp x ys ≡ has_member cmp y ys
  has-same x y e [] = refl
  has-same x y e (z ∷ zs) = let h : cmp x z ≡ cmp y z = order.congr x y z e in let t : has_member cmp x zs ≡ has_member cmp y zs = has-same x y e zs in rw (h, t) refl

  has-filter_by : (p : X → Bool) → ((x y : X) → cmp x y ≡ Equal → p x ≡ p y) → (x y : X) (ys : List X) (b : Bool) (o : Ordering) → p y ≡ b → cmp x y ≡ o
      → has_member cmp x (filter p ys) ≡ p x && has_member cmp x ys → has_member cmp x (filter p (y ∷ ys)) ≡ p x && (is_eq (cmp x y) || has_member cmp x ys)
  has-filter_by p same x y ys true Less e f ih = rw (e, f) ih
  has-filter_by p same x y ys true Greater e f ih = rw (e, f) ih
  has-filter_by p same x y ys true Equal e f ih = let h : p x ≡ true = same x y f ∙ e in rw (e, f, h) refl
  has-filter_by p same x y ys false Less e f ih = rw (e, f) ih
  has-filter_by p same x y ys false Greater e f ih = rw (e, f) ih
  has-filter_by p same x y ys false Equal e f ih = let h : p x ≡ false = same x y f ∙ e in rw (e, f, h) (ih ∙ rw h refl)

  pub has-filter : (p : X → Bool) → ((x y : X) → cmp x y ≡ Equal → p x ≡ p y) → (x : X) (ys : List X) → has_member cmp x (filter p ys) ≡ p x && has_member cmp x ys
  has-filter p same x [] = sym (and_false (p x))
  has-filter p same x (y ∷ ys) = has-filter_by p same x y ys (p y) (cmp x y) refl refl (has-filter p same x ys)

  pub has-common : (x : X) (xs ys : List X) → has_member cmp x (common cmp xs ys) ≡ has_member cmp x xs && has_member cmp x ys
  has-common x xs ys = has-filter (λ z. has_member cmp z ys) (λ a b e. has-same a b e ys) x xs ∙ and_comm (has_member cmp x ys) (has_member cmp x xs)

  pub has-less : (x : X) (xs ys : List X) → has_member cmp x (less cmp xs ys) ≡ has_member cmp x xs && not (has_member cmp x ys)
  has-less x xs ys = has-filter (λ z. not (has_member cmp z ys)) (λ a b e. ap not (has-same a b e ys)) x xs ∙ and_comm (not (has_member cmp x ys)) (has_member cmp x xs)

  not_or : (a b : Bool) → not (a && not b) ≡ b || not a
  not_or true true = refl
  not_or true false = refl
  not_or false true = refl
  not_or false false = refl

  not_or' : (a b : Bool) → not (a && not b) ≡ not a || b
  not_or' true true = refl
  not_or' true false = refl
  not_or' false true = refl
  not_or' false false = refl

  not_and : (a b : Bool) → not (a && b) ≡ not a || not b
  not_and true b = refl
  not_and false b = refl

  not_both : (a b : Bool) → not (a || b) ≡ not a && not b
  not_both true b = refl
  not_both false b = refl

  pub member-either : (x : X) (a b : Members X) → is_member cmp x (either_set cmp a b) ≡ is_member cmp x a || is_member cmp x b
  member-either x (only xs) (only ys) = has-in_order x (xs ++ ys) ∙ has-append x xs ys
  member-either x (only xs) (all_but ys) = ap not (has-less x ys xs) ∙ not_or (has_member cmp x ys) (has_member cmp x xs)
  member-either x (all_but xs) (only ys) = ap not (has-less x xs ys) ∙ not_or' (has_member cmp x xs) (has_member cmp x ys)
  member-either x (all_but xs) (all_but ys) = ap not (has-common x xs ys) ∙ not_and (has_member cmp x xs) (has_member cmp x ys)

  pub member-both : (x : X) (a b : Members X) → is_member cmp x (both_sets cmp a b) ≡ is_member cmp x a && is_member cmp x b
  member-both x (only xs) (only ys) = has-common x xs ys
  member-both x (only xs) (all_but ys) = has-less x xs ys
  member-both x (all_but xs) (only ys) = has-less x ys xs ∙ and_comm (has_member cmp x ys) (not (has_member cmp x xs))
  member-both x (all_but xs) (all_but ys) = ap not (has-in_order x (xs ++ ys) ∙ has-append x xs ys) ∙ not_both (has_member cmp x xs) (has_member cmp x ys)

  pub member-outside : (x : X) (a : Members X) → is_member cmp x (outside a) ≡ not (is_member cmp x a)
  member-outside x (only xs) = refl
  member-outside x (all_but xs) = sym (not_not (has_member cmp x xs))
