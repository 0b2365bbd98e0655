-- Sets of values: what types mean where code runs.
use Rattle.std.specs.Prelude.{Bool, true, false, ◌&&◌, List, [], ◌∷◌, Option, Some, None}
use Rattle.luau_values.specs.Value.{Value, Nil, Num}
use Rattle.luau_values.specs.Heap.{Heap}

-- a set of values, which may look into tables: whether a value is in it, in a heap
abbrev pub ValueSet : Type 0
ValueSet = Heap → Value → Bool

-- all values
abbrev pub everything : ValueSet
everything heap v = true

-- no value
abbrev pub nothing : ValueSet
nothing heap v = false

-- the numbers
abbrev pub numbers : ValueSet
numbers heap (Num text) = true
numbers heap _ = false

-- a set, or the given one where there is none
abbrev pub set_or : ValueSet → Option ValueSet → ValueSet
set_or set None = set
set_or set (Some s) = s

-- whether each value is in its set, where one that isn't given is nil, and each further value is in
-- `further`
abbrev pub all_in : Heap → List ValueSet → ValueSet → List Value → Bool
all_in heap [] further [] = true
all_in heap [] further (v ∷ values) = further heap v && all_in heap [] further values
all_in heap (set ∷ sets) further [] = set heap Nil && all_in heap sets further []
all_in heap (set ∷ sets) further (v ∷ values) = set heap v && all_in heap sets further values
