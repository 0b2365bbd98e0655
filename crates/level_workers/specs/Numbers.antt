-- Which numbers stand in a list, and how often.
use Rattle.std.specs.Prelude.{◌≡◌, ℕ, ◌≤◌, List, [], ◌∷◌, ◌++◌, ◌==◌, if◌then◌else◌, nat_lt, nat_le, count_by, filter}
use Rattle.std.proofs.Common.{zero, suc}

-- how often x stands in the list
abbrev pub times : ℕ → List ℕ → ℕ
times x xs = count_by (λ y. y == x) xs

-- each number below n stands in the list once, and no other stands there
abbrev pub EachBelow : ℕ → List ℕ → Type 0
EachBelow n xs = (x : ℕ) → times x xs ≡ (if nat_lt x n then 1 else 0)

-- no number stands in the list twice
abbrev pub NoneTwice : List ℕ → Type 0
NoneTwice xs = (x : ℕ) → times x xs ≤ 1

-- the two lists have the same numbers, each as often
abbrev pub SameNumbers : List ℕ → List ℕ → Type 0
SameNumbers xs ys = (x : ℕ) → times x xs ≡ times x ys

-- the numbers below n, in order
abbrev pub numbers_below : ℕ → List ℕ
numbers_below zero = []
numbers_below (suc n) = numbers_below n ++ n ∷ []

-- those below the limit
abbrev pub below : ℕ → List ℕ → List ℕ
below limit xs = filter (λ x. nat_lt x limit) xs

-- those at or past the limit
abbrev pub past : ℕ → List ℕ → List ℕ
past limit xs = filter (λ x. nat_le limit x) xs
