-- Values that stand in a heap.
use Rattle.std.specs.Prelude.{ℕ, ◌<◌, List, length, ⊤}
use Rattle.luau_values.specs.Value.{Value, Tab}
use Rattle.luau_values.specs.Heap.{Heap, field_of}

-- a value stands in a heap: where it is a table, the table is there
abbrev pub Stands : Heap → Value → Type 0
Stands heap (Tab address) = address < length heap
Stands heap value = ⊤

-- what stands in the tables of a heap stands: whatever a field reads as
abbrev pub FieldsStand : Heap → Type 0
FieldsStand heap = (address : ℕ) (name : List ℕ) → Stands heap (field_of heap address name)
