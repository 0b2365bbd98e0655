-- The reports are exactly at the literals that aren't numbers.
use Rattle.std.proofs.Common.{◌≡◌, ℕ, zero, suc, ◌+◌, ◌*◌, Bool, true, false, if◌then◌else◌, ◌⊎◌, inl, inr, ◌↔◌, List, [], ◌∷◌, ◌++◌, Some, slice_get, refl, sym, ◌∙◌, ap, subst, arith, Contains}
use Rattle.luau_tree.specs.declared.names.Place.{Place}
use Rattle.rules_certain.specs.Literal.{is_number}
use Rattle.rules_certain.specs.Calls.{Written, after_call}
use Rattle.rules_certain.specs.Reports.{argument_of, reports_in, reports_from, reports_of, IsWrongLiteral}
use Rattle.rules_certain.proofs.ReportPlaces.{further, contains_append, first_or_later}

contains_left : {X : Type 0} (xs ys : List X) (x : X) → Contains xs x → Contains (xs ++ ys) x
contains_left [] ys x c = absurd (omega (arith, c.1))
contains_left (z ∷ xs) ys x (zero, l, e) = (zero, omega arith, e)
contains_left (z ∷ xs) ys x (suc k, l, e) = further z (xs ++ ys) x (contains_left xs ys x (k, omega (arith, l), e))

contains_right : {X : Type 0} (xs ys : List X) (x : X) → Contains ys x → Contains (xs ++ ys) x
contains_right [] ys x c = c
contains_right (z ∷ xs) ys x c = further z (xs ++ ys) x (contains_right xs ys x c)

-- ---- a literal that is no number is reported

put_first : {X : Type 0} (b : Bool) (x : X) (xs : List X) → b ≡ false → Contains (if b then xs else x ∷ xs) x
put_first true x xs e = absurd cc
put_first false x xs e = (zero, omega arith, refl)

put_later : {X : Type 0} (b : Bool) (y : X) (xs : List X) (x : X) → Contains xs x → Contains (if b then xs else y ∷ xs) x
put_later true y xs x c = c
put_later false y xs x c = further y xs x c

wrong_in : (at n : ℕ) (calls : List Written) (k : ℕ) (w : Written) → slice_get calls k ≡ Some w → is_number w.literal ≡ false
    → Contains (reports_in at n calls) (at, argument_of (n + k * 4))
wrong_in at n [] k w e f = absurd cc
wrong_in at n (v ∷ calls) zero w e f =
    let s : v ≡ w = cc in
    subst (λ (i : ℕ). Contains (reports_in at n (v ∷ calls)) (at, argument_of i)) (omega arith)
    (put_first (is_number v.literal) (at, argument_of n) (reports_in at (after_call n) calls) (ap (λ (x : Written). is_number x.literal) s ∙ f))
wrong_in at n (v ∷ calls) (suc k) w e f =
    put_later (is_number v.literal) (at, argument_of n) (reports_in at (after_call n) calls) (at, argument_of (n + suc k * 4))
    (subst (λ (i : ℕ). Contains (reports_in at (after_call n) calls) (at, argument_of i)) (omega arith) (wrong_in at (after_call n) calls k w e f))

wrong_from : (at : ℕ) (modules : List (List Written)) (j : ℕ) (calls : List Written) (x : ℕ × Place) → slice_get modules j ≡ Some calls
    → Contains (reports_in (at + j) 0 calls) x → Contains (reports_from at modules) x
wrong_from at [] j calls x e c = absurd cc
wrong_from at (c0 ∷ modules) zero calls x e c =
    let s : calls ≡ c0 = cc in
    contains_left (reports_in at 0 c0) (reports_from (suc at) modules) x
    (subst (λ (l : List Written). Contains (reports_in at 0 l) x) s (subst (λ (i : ℕ). Contains (reports_in i 0 calls) x) (omega arith) c))
wrong_from at (c0 ∷ modules) (suc j) calls x e c =
    contains_right (reports_in at 0 c0) (reports_from (suc at) modules) x
    (wrong_from (suc at) modules j calls x e (subst (λ (i : ℕ). Contains (reports_in i 0 calls) x) (omega arith) c))

-- ---- nothing else is reported

-- what a report of a module from a number on is
abbrev OneOf : (at n : ℕ) → List Written → ℕ × Place → Type 0
OneOf at n calls x = (x.0 ≡ at) × ((k : ℕ) × (w : Written) × (slice_get calls k ≡ Some w) × (is_number w.literal ≡ false) × (x.1 ≡ argument_of (n + k * 4)))

one_later : (at n : ℕ) (w : Written) (calls : List Written) (x : ℕ × Place) → OneOf at (after_call n) calls x → OneOf at n (w ∷ calls) x
one_later at n w calls x (e, (k, v, g, f, p)) = (e, (suc k, v, g, f, p ∙ ap (λ (i : ℕ). argument_of i) (omega arith)))

only_in : (at n : ℕ) (calls : List Written) (x : ℕ × Place) → Contains (reports_in at n calls) x → OneOf at n calls x
only_in at n [] x c = absurd (omega (arith, c.1))
only_in at n (w ∷ calls) x c = by_case (first_or_later at n w calls x c) (λ k. only_in at (after_call n) calls x k)
  where
    by_case : ((is_number w.literal ≡ false) × ((at, argument_of n) ≡ x)) ⊎ Contains (reports_in at (after_call n) calls) x
        → (Contains (reports_in at (after_call n) calls) x → OneOf at (after_call n) calls x) → OneOf at n (w ∷ calls) x
    by_case (inl e) again = (sym (ap (λ (y : ℕ × Place). y.0) e.1), (zero, w, refl, e.0, sym (ap (λ (y : ℕ × Place). y.1) e.1) ∙ ap (λ (i : ℕ). argument_of i) (omega arith)))
    by_case (inr k) again = one_later at n w calls x (again k)

only_from : (at : ℕ) (modules : List (List Written)) (x : ℕ × Place) → Contains (reports_from at modules) x
    → (j : ℕ) × (calls : List Written) × (slice_get modules j ≡ Some calls) × OneOf (at + j) 0 calls x
only_from at [] x c = absurd (omega (arith, c.1))
only_from at (c0 ∷ modules) x c =
    by_case (contains_append (reports_in at 0 c0) (reports_from (suc at) modules) x c) (λ k. only_from (suc at) modules x k)
  where
    by_case : Contains (reports_in at 0 c0) x ⊎ Contains (reports_from (suc at) modules) x
        → (Contains (reports_from (suc at) modules) x → (j : ℕ) × (calls : List Written) × (slice_get modules j ≡ Some calls) × OneOf (suc at + j) 0 calls x)
        → (j : ℕ) × (calls : List Written) × (slice_get (c0 ∷ modules) j ≡ Some calls) × OneOf (at + j) 0 calls x
    by_case (inl k) again = (zero, c0, refl, subst (λ (i : ℕ). OneOf i 0 c0 x) (omega arith) (only_in at 0 c0 x k))
    by_case (inr k) again =
        let q : (j : ℕ) × (calls : List Written) × (slice_get modules j ≡ Some calls) × OneOf (suc at + j) 0 calls x = again k in
        (suc q.0, q.1, q.2, subst (λ (i : ℕ). OneOf i 0 q.1 x) (omega arith) q.3)

pub exact : (modules : List (List Written)) (x : ℕ × Place) → Contains (reports_of modules) x ↔ IsWrongLiteral modules x
exact modules x = (there, here)
  where
    there : Contains (reports_of modules) x → IsWrongLiteral modules x
    there c =
        let q : (j : ℕ) × (calls : List Written) × (slice_get modules j ≡ Some calls) × OneOf (0 + j) 0 calls x = only_from 0 modules x c in
        (q.1, q.3.1.0, q.3.1.1, ap (λ (i : ℕ). slice_get modules i) (q.3.0 ∙ omega arith) ∙ q.2, q.3.1.2, q.3.1.3, q.3.1.4 ∙ ap (λ (i : ℕ). argument_of i) (omega arith))

    here : IsWrongLiteral modules x → Contains (reports_of modules) x
    here (calls, k, w, e, g, f, p) =
        let at_zero : Contains (reports_in (0 + x.0) 0 calls) (x.0, argument_of (0 + k * 4)) =
        subst (λ (i : ℕ). Contains (reports_in (0 + x.0) 0 calls) (i, argument_of (0 + k * 4))) (omega arith) (wrong_in (0 + x.0) 0 calls k w g f) in
        wrong_from 0 modules x.0 calls x e
        (subst (λ (q : Place). Contains (reports_in (0 + x.0) 0 calls) (x.0, q)) (ap (λ (i : ℕ). argument_of i) (omega arith) ∙ sym p) at_zero)
