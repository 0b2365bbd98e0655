-- Values in order.
use Rattle.std.specs.Prelude.{◌≡◌, ℕ, List, [], ◌∷◌, AllPairs}
use Rattle.std.specs.declared.cmp.Ordering.{Ordering}
use Rattle.std.specs.declared.cmp.Ordering.TheVariants.{Less}
use Rattle.std.specs.BTreeSet.{insert_key}
use Rattle.std.specs.Cmp.Lexicographic.{slice_cmp}
use Rattle.std.specs.Ordering.{nat_cmp}

-- bytes are compared from the first on, and a beginning comes before the whole
abbrev pub bytes_cmp : List ℕ → List ℕ → Ordering
bytes_cmp = slice_cmp nat_cmp

-- each of some bytes comes before all later ones
abbrev pub IsAscending : List (List ℕ) → Type 0
IsAscending = AllPairs (λ a b. bytes_cmp a b ≡ Less)

-- some values in an order, each once: every value is put in its place among the others, unless it is there already
abbrev pub sorted_by : {K : Type 0} → (K → K → Ordering) → List K → List K
sorted_by cmp [] = []
sorted_by cmp (value ∷ rest) = insert_key cmp (sorted_by cmp rest) value
