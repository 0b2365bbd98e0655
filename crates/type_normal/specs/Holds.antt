-- Which values belong to a type, in a heap.
use Rattle.std.specs.Prelude.{ℕ, Bool, true, false, not, ◌&&◌, ◌||◌}
use Rattle.type_arena.specs.Term.{Term, term, Rows, no_rows, more_rows, Fields, no_fields, more_fields}
use Rattle.luau_values.specs.Value.{Value}
use Rattle.luau_values.specs.Heap.{Heap, is_frozen, field_of}
use Rattle.type_normal.specs.Free.{belongs}

-- a table belongs to a type by one of its rows; a row is for the tables whose fields are in the types that it gives them,
-- and if it is frozen for frozen tables alone; a field that a table hasn't reads as nil
abbrev mutual
  pub holds : Heap → Value → Term → Bool
  holds heap value (term free rows) = belongs free (λ address. holds_rows heap address rows) value

  pub holds_rows : Heap → ℕ → Rows → Bool
  holds_rows heap address no_rows = false
  holds_rows heap address (more_rows frozen fields rows) = ((not frozen || is_frozen heap address) && holds_fields heap address fields) || holds_rows heap address rows

  pub holds_fields : Heap → ℕ → Fields → Bool
  holds_fields heap address no_fields = true
  holds_fields heap address (more_fields name type fields) = holds heap (field_of heap address name) type && holds_fields heap address fields
