-- Heaps: the tables of a run, each with a mark that says whether it is frozen, and with named
-- fields. What stands under keys that are no strings is in no heap.
use Rattle.std.specs.Prelude.{◌≢◌, ℕ, zero, suc, Bool, true, false, not, if◌then◌else◌, List, [], ◌∷◌, ◌++◌, slice_get, IsFalse}
use Rattle.std.specs.Option.{option_map_or}
use Rattle.std.specs.List.{All, AllPairs, filter}
use Rattle.std.specs.Str.{bytes_eq}
use Rattle.luau_values.specs.Value.{Value, Nil, is_nil}

-- a field of a table
pub record Field : Type 0 where
  pub name : List ℕ
  pub value : Value

-- a table
pub record Table : Type 0 where
  pub frozen : Bool
  pub fields : List Field

-- no name stands in two of some fields, and no value there is nil
abbrev pub AreFields : List Field → Type 0
AreFields fields = AllPairs (λ f g. f.name ≢ g.name) fields × All (λ f. IsFalse (is_nil f.value)) fields

-- the tables; an address is a position
abbrev pub Heap : Type 0
Heap = List Table

-- the value of a field, and nil where there is none
abbrev pub value_of : List ℕ → List Field → Value
value_of name [] = Nil
value_of name (f ∷ fields) = if bytes_eq f.name name then f.value else value_of name fields

-- the fields without one
abbrev pub without : List ℕ → List Field → List Field
without name fields = filter (λ f. not (bytes_eq f.name name)) fields

-- the fields after a write; what is written with nil is removed
abbrev pub written : List ℕ → Value → List Field → List Field
written name value fields =
    if is_nil value then without name fields else (record { name = name; value = value } ∷ without name fields)

-- whether the table at an address is frozen
abbrev pub is_frozen : Heap → ℕ → Bool
is_frozen heap address = option_map_or (λ t. t.frozen) (slice_get heap address) false

-- what a field of the table at an address reads as
abbrev pub field_of : Heap → ℕ → List ℕ → Value
field_of heap address name = option_map_or (λ t. value_of name t.fields) (slice_get heap address) Nil

-- the heap with the table at an address changed
abbrev pub changed : (Table → Table) → ℕ → Heap → Heap
changed change address [] = []
changed change zero (t ∷ heap) = change t ∷ heap
changed change (suc address) (t ∷ heap) = t ∷ changed change address heap

-- the heap with a new table, at the address after the last
abbrev pub with_table : List Field → Heap → Heap
with_table fields heap = heap ++ record { frozen = false; fields = fields } ∷ []

-- the heap after a write to a field
abbrev pub with_field : ℕ → List ℕ → Value → Heap → Heap
with_field address name value heap = changed (λ t. record t { fields = written name value t.fields }) address heap

-- the heap after a table is frozen
abbrev pub with_frozen : ℕ → Heap → Heap
with_frozen address heap = changed (λ t. record t { frozen = true }) address heap
