-- How heaps change where code has no effects: by new tables, and by freezing.
use Rattle.std.specs.Prelude.{◌≡◌, [], ◌∷◌, IsTrue, ⊤}
use Rattle.luau_values.specs.Heap.{Heap}

-- the second heap may come from the first by new tables and by freezing alone: no table is gone,
-- each has the fields that it had, and each frozen one is frozen
abbrev pub Grows : Heap → Heap → Type 0
Grows [] new = ⊤
Grows (t ∷ old) [] = ⊥
Grows (t ∷ old) (u ∷ new) = (u.fields ≡ t.fields) × (IsTrue t.frozen → IsTrue u.frozen) × Grows old new
