-- Which places are reported, and what the names stand for.
use Rattle.std.proofs.Common.{◌≡◌, ℕ, zero, suc, ◌+◌, ◌≤◌, Bool, true, false, if◌then◌else◌, ◌⊎◌, inl, inr, List, [], ◌∷◌, ◌++◌, Option, Some, None, slice_get, refl, sym, ap, subst, arith, Contains}
use Rattle.std.specs.Bool.{⊤}
use Rattle.luau_tree.specs.declared.names.Place.{Place}
use Rattle.luau_tree.specs.declared.names.Place.TheVariants.{Expr as ExprPlace}
use Rattle.luau_run.specs.ReadModule.{ReadModule}
use Rattle.rules_certain.specs.Literal.{is_number}
use Rattle.rules_certain.specs.Calls.{Written, after_call, ReadsAs, AllReadAs}
use Rattle.rules_certain.specs.Reports.{place, argument_of, reports_in, reports_from}

contains_cons : {X : Type 0} (y : X) (ys : List X) (x : X) → Contains (y ∷ ys) x → (y ≡ x) ⊎ Contains ys x
contains_cons y ys x (zero, l, e) = inl e
contains_cons y ys x (suc k, l, e) = inr (k, omega (arith, l), e)

pub further : {X : Type 0} (y : X) (ys : List X) (x : X) → Contains ys x → Contains (y ∷ ys) x
further y ys x c = (suc c.0, omega (arith, c.1), c.2)

pub contains_append : {X : Type 0} (xs ys : List X) (x : X) → Contains (xs ++ ys) x → Contains xs x ⊎ Contains ys x
contains_append [] ys x c = inr c
contains_append (z ∷ xs) ys x c = by_head (contains_cons z (xs ++ ys) x c) (λ k. contains_append xs ys x k)
  where
    by_tail : Contains xs x ⊎ Contains ys x → Contains (z ∷ xs) x ⊎ Contains ys x
    by_tail (inl k) = inl (further z xs x k)
    by_tail (inr k) = inr k

    by_head : (z ≡ x) ⊎ Contains (xs ++ ys) x → (Contains (xs ++ ys) x → Contains xs x ⊎ Contains ys x) → Contains (z ∷ xs) x ⊎ Contains ys x
    by_head (inl e) again = inl (zero, omega arith, e)
    by_head (inr k) again = by_tail (again k)

-- the number of an expression's place
abbrev number_at : Place → ℕ
number_at (ExprPlace e) = e.0
number_at _ = 0

same_module : (m at id n : ℕ) → ◌≡◌ {A = ℕ × Place} (at, argument_of n) (m, place id) → (m ≡ at) × (id ≡ suc (suc (suc n)))
same_module m at id n e = (sym (ap (λ (x : ℕ × Place). x.0) e), sym (ap (λ (x : ℕ × Place). number_at x.1) e))

later_place : (m at id n : ℕ) → suc (suc (suc (suc n))) ≤ id → ◌≡◌ {A = ℕ × Place} (at, argument_of n) (m, place id) → ⊥
later_place m at id n l e = absurd (omega (arith, (same_module m at id n e).1))

-- a report is that of the first call, whose literal is no number, or of a later one
pub first_or_later : (at n : ℕ) (w : Written) (calls : List Written) (x : ℕ × Place) → Contains (reports_in at n (w ∷ calls)) x
    → ((is_number w.literal ≡ false) × ((at, argument_of n) ≡ x)) ⊎ Contains (reports_in at (after_call n) calls) x
first_or_later at n w calls x = by_test (is_number w.literal)
  where
    by_head : ((at, argument_of n) ≡ x) ⊎ Contains (reports_in at (after_call n) calls) x
        → ((false ≡ false) × ((at, argument_of n) ≡ x)) ⊎ Contains (reports_in at (after_call n) calls) x
    by_head (inl e) = inl (refl, e)
    by_head (inr k) = inr k

    by_test : (b : Bool) → Contains (if b then reports_in at (after_call n) calls else (at, argument_of n) ∷ reports_in at (after_call n) calls) x
        → ((b ≡ false) × ((at, argument_of n) ≡ x)) ⊎ Contains (reports_in at (after_call n) calls) x
    by_test true c = inr c
    by_test false c = by_head (contains_cons (at, argument_of n) (reports_in at (after_call n) calls) x c)

-- a report past the first call is that of a later one
pub past_first : (at n : ℕ) (w : Written) (calls : List Written) (id : ℕ) → after_call n ≤ id → Contains (reports_in at n (w ∷ calls)) (at, place id)
    → Contains (reports_in at (after_call n) calls) (at, place id)
past_first at n w calls id l c = by_case (first_or_later at n w calls (at, place id) c)
  where
    by_case : ((is_number w.literal ≡ false) × (◌≡◌ {A = ℕ × Place} (at, argument_of n) (at, place id))) ⊎ Contains (reports_in at (after_call n) calls) (at, place id)
        → Contains (reports_in at (after_call n) calls) (at, place id)
    by_case (inl e) = absurd (later_place at at id n l e.1)
    by_case (inr k) = k

-- the reports of calls from a number on are in their module, past this number
pub reports_past : (at m id n : ℕ) (calls : List Written) → Contains (reports_in at n calls) (m, place id) → (m ≡ at) × (suc (suc (suc n)) ≤ id)
reports_past at m id n [] c = absurd (omega (arith, c.1))
reports_past at m id n (w ∷ calls) c = by_case (first_or_later at n w calls (m, place id) c) (λ k. reports_past at m id (after_call n) calls k)
  where
    by_case : ((is_number w.literal ≡ false) × (◌≡◌ {A = ℕ × Place} (at, argument_of n) (m, place id))) ⊎ Contains (reports_in at (after_call n) calls) (m, place id)
        → (Contains (reports_in at (after_call n) calls) (m, place id) → (m ≡ at) × (suc (suc (suc (after_call n))) ≤ id))
        → (m ≡ at) × (suc (suc (suc n)) ≤ id)
    by_case (inl e) again = let q : (m ≡ at) × (id ≡ suc (suc (suc n))) = same_module m at id n e.1 in (q.0, omega (arith, q.1))
    by_case (inr k) again = let q : (m ≡ at) × (suc (suc (suc (after_call n))) ≤ id) = again k in (q.0, omega (arith, q.1))

-- the reports from a module's position on are in modules from there on
from_past : (at m id : ℕ) (modules : List (List Written)) → Contains (reports_from at modules) (m, place id) → at ≤ m
from_past at m id [] c = absurd (omega (arith, c.1))
from_past at m id (calls ∷ modules) c =
    by_case (contains_append (reports_in at 0 calls) (reports_from (suc at) modules) (m, place id) c) (λ k. from_past (suc at) m id modules k)
  where
    by_case : Contains (reports_in at 0 calls) (m, place id) ⊎ Contains (reports_from (suc at) modules) (m, place id)
        → (Contains (reports_from (suc at) modules) (m, place id) → suc at ≤ m) → at ≤ m
    by_case (inl k) again = omega (arith, (reports_past at m id 0 calls k).0)
    by_case (inr k) again = omega (arith, again k)

-- what is known of the module at a position: it is read as some calls, whose reports are all that there are in it
abbrev pub Found : (reports : List (ℕ × Place)) → (at : ℕ) → Option ReadModule → Type 0
Found reports at None = ⊤
Found reports at (Some reading) = (calls : List Written) × ReadsAs calls reading × ((id : ℕ) → Contains reports (at, place id) → Contains (reports_in at 0 calls) (at, place id))

found_later : (reports more : List (ℕ × Place)) (at : ℕ) (o : Option ReadModule) → ((id : ℕ) → Contains more (at, place id) → Contains reports (at, place id))
    → Found reports at o → Found more at o
found_later reports more at None f h = tt
found_later reports more at (Some reading) f h = (h.0, h.1, λ id c. h.2 id (f id c))

pub found : (at : ℕ) (modules : List (List Written)) (readings : List ReadModule) (k : ℕ) → AllReadAs modules readings
    → Found (reports_from at modules) (at + k) (slice_get readings k)
found at [] [] k h = tt
found at [] (reading ∷ readings) k h = absurd h
found at (calls ∷ modules) [] k h = absurd h
found at (calls ∷ modules) (reading ∷ readings) zero h =
    (calls, h.0, λ id c. by_case id (contains_append (reports_in at 0 calls) (reports_from (suc at) modules) (at + zero, place id) c))
  where
    by_case : (id : ℕ) → Contains (reports_in at 0 calls) (at + zero, place id) ⊎ Contains (reports_from (suc at) modules) (at + zero, place id)
        → Contains (reports_in (at + zero) 0 calls) (at + zero, place id)
    by_case id (inl k) = subst (λ (m : ℕ). Contains (reports_in m 0 calls) (at + zero, place id)) (omega arith) k
    by_case id (inr k) = absurd (omega (arith, from_past (suc at) (at + zero) id modules k))
found at (calls ∷ modules) (reading ∷ readings) (suc k) h =
    found_later (reports_from (suc at) modules) (reports_from at (calls ∷ modules)) (at + suc k) (slice_get readings k)
    (λ id c. by_case id (contains_append (reports_in at 0 calls) (reports_from (suc at) modules) (at + suc k, place id) c))
    (subst (λ (m : ℕ). Found (reports_from (suc at) modules) m (slice_get readings k)) (omega arith) (found (suc at) modules readings k h.1))
  where
    by_case : (id : ℕ) → Contains (reports_in at 0 calls) (at + suc k, place id) ⊎ Contains (reports_from (suc at) modules) (at + suc k, place id)
        → Contains (reports_from (suc at) modules) (at + suc k, place id)
    by_case id (inl c) = absurd (omega (arith, (reports_past at (at + suc k) id 0 calls c).0))
    by_case id (inr c) = c
