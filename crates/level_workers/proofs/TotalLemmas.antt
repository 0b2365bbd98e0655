-- Sums over the views of a board.
use Rattle.std.proofs.Common.{◌≡◌, ℕ, zero, suc, ◌+◌, ◌<◌, ◌≤◌, ◌⊎◌, inl, inr, ⊎_elim, List, [], ◌∷◌, ◌++◌, length, set, refl, sym, ap, arith}
use Rattle.std.specs.Prelude.{sum_by}
use mathlib.Core.Option.{some, some-injective, some-ne-none}
use lib.ListN.{get_elem?}
use Rattle.std.proofs.lemmas.List.Sums.{sum_by-cons}
use Rattle.level_workers.specs.declared.view.View.{View}
use Rattle.level_workers.specs.Numbers.{times, past}
use Rattle.level_workers.specs.Views.{all_finds}
use Rattle.level_workers.proofs.NumberLemmas.{times-append, length-past-append}

module _ {A : Type 0} where
  pub at_length : (xs : List A) (i : ℕ) (v : A) → get_elem? xs i ≡ some v → i < length xs
  at_length [] i v e = absurd (some-ne-none v (sym e))
  at_length (x ∷ xs) zero v e = omega arith
  at_length (x ∷ xs) (suc i) v e = omega (arith, at_length xs i v e)

  pub length_of_set : (xs : List A) (i : ℕ) (v : A) → length (set xs i v) ≡ length xs
  length_of_set [] i v = refl
  length_of_set (x ∷ xs) zero v = refl
  length_of_set (x ∷ xs) (suc i) v = ap suc (length_of_set xs i v)

  -- an element of a list with one more stood there before, or is the last
  pub at_push : (xs : List A) (a : A) (j : ℕ) (b : A) → get_elem? (xs ++ a ∷ []) j ≡ some b → (get_elem? xs j ≡ some b) ⊎ ((j ≡ length xs) × (a ≡ b))
  at_push [] a zero b e = inr (refl, some-injective a b e)
  at_push [] a (suc j) b e = absurd (some-ne-none b (sym e))
  at_push (x ∷ xs) a zero b e = inl e
  at_push (x ∷ xs) a (suc j) b e = ⊎_elim (λ t. inl t) (λ (t : (j ≡ length xs) × (a ≡ b)). inr (ap suc t.0, t.1)) (at_push xs a j b e)

  -- a sum after one element was changed
  pub sum_by-at_set : (f : A → ℕ) (xs : List A) (i : ℕ) (v w : A) → get_elem? xs i ≡ some v → sum_by f (set xs i w) + f v ≡ sum_by f xs + f w
  sum_by-at_set f [] i v w e = absurd (some-ne-none v (sym e))
  sum_by-at_set f (x ∷ xs) zero v w e = omega (arith, sum_by-cons f w xs, sum_by-cons f x xs, ap f (some-injective x v e))
  sum_by-at_set f (x ∷ xs) (suc i) v w e = omega (arith, sum_by-cons f x (set xs i w), sum_by-cons f x xs, sum_by-at_set f xs i v w e)

  pub le-sum_by : (f : A → ℕ) (xs : List A) (i : ℕ) (v : A) → get_elem? xs i ≡ some v → f v ≤ sum_by f xs
  le-sum_by f [] i v e = absurd (some-ne-none v (sym e))
  le-sum_by f (x ∷ xs) zero v e = omega (arith, sum_by-cons f x xs, ap f (some-injective x v e))
  le-sum_by f (x ∷ xs) (suc i) v e = omega (arith, sum_by-cons f x xs, le-sum_by f xs i v e)

  nothing_left : (f g : A → ℕ) (xs : List A) → ((j : ℕ) (u : A) → get_elem? xs j ≡ some u → g u ≡ 0 → f u ≡ 0) → sum_by g xs ≡ 0 → sum_by f xs ≡ 0
  nothing_left f g [] small e = refl
  nothing_left f g (x ∷ xs) small e =
      let none : g x ≡ 0 = omega (arith, sum_by-cons g x xs) in
      let rest : sum_by g xs ≡ 0 = omega (arith, sum_by-cons g x xs) in
      omega (arith, sum_by-cons f x xs, small zero x refl none, nothing_left f g xs (λ j u at. small (suc j) u at) rest)

  -- where one element has all of the sum of g, and f is 0 where g is, it has all of the sum of f
  pub sum_by-alone : (f g : A → ℕ) (xs : List A) (i : ℕ) (v : A) → ((j : ℕ) (u : A) → get_elem? xs j ≡ some u → g u ≡ 0 → f u ≡ 0) → get_elem? xs i ≡ some v → sum_by g xs ≡ g v → sum_by f xs ≡ f v
  sum_by-alone f g [] i v small at e = absurd (some-ne-none v (sym at))
  sum_by-alone f g (x ∷ xs) zero v small at e =
      let same : x ≡ v = some-injective x v at in
      let rest : sum_by g xs ≡ 0 = omega (arith, sum_by-cons g x xs, ap g same) in
      omega (arith, sum_by-cons f x xs, ap f same, nothing_left f g xs (λ j u at'. small (suc j) u at') rest)
  sum_by-alone f g (x ∷ xs) (suc i) v small at e =
      let le = le-sum_by g xs i v at in
      let none : g x ≡ 0 = omega (arith, sum_by-cons g x xs) in
      let rest : sum_by g xs ≡ g v = omega (arith, sum_by-cons g x xs) in
      omega (arith, sum_by-cons f x xs, small zero x refl none, sum_by-alone f g xs i v (λ j u at'. small (suc j) u at') at rest)

pub times-all_finds : (x : ℕ) (views : List View) → times x (all_finds views) ≡ sum_by (λ (v : View). times x v.finds) views
times-all_finds x [] = refl
times-all_finds x (v ∷ views) =
    omega (arith, times-append x v.finds (all_finds views), sum_by-cons (λ (u : View). times x u.finds) v views, times-all_finds x views)

pub past-all_finds : (limit : ℕ) (views : List View) → length (past limit (all_finds views)) ≡ sum_by (λ (v : View). length (past limit v.finds)) views
past-all_finds limit [] = refl
past-all_finds limit (v ∷ views) =
    omega (arith, length-past-append limit v.finds (all_finds views), sum_by-cons (λ (u : View). length (past limit u.finds)) v views, past-all_finds limit views)
