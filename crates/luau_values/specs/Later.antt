-- How heaps may follow one another.
use Rattle.std.specs.Prelude.{◌≡◌, [], ◌∷◌, IsTrue, ⊤}
use Rattle.luau_values.specs.Heap.{Table, Heap}

-- a table may become another: once it is frozen it stays what it is
abbrev pub Becomes : Table → Table → Type 0
Becomes t u = IsTrue t.frozen → u ≡ t

-- the second heap may come from the first: no table is gone, and each frozen one is what it was
abbrev pub Later : Heap → Heap → Type 0
Later [] new = ⊤
Later (t ∷ old) [] = ⊥
Later (t ∷ old) (u ∷ new) = Becomes t u × Later old new

-- the second heap is the first with more tables
abbrev pub Extends : Heap → Heap → Type 0
Extends [] new = ⊤
Extends (t ∷ old) [] = ⊥
Extends (t ∷ old) (u ∷ new) = (u ≡ t) × Extends old new
