-- What a type says of a field, and what it becomes where a field is written or a table is frozen.
use Rattle.std.specs.Prelude.{ℕ, Bool, true, ◌&&◌, List, if◌then◌else◌}
use Rattle.std.specs.Str.{bytes_eq}
use Rattle.type_arena.specs.Term.{Term, term, Rows, no_rows, more_rows, Fields, no_fields, more_fields, never}
use Rattle.luau_values.specs.Heap.{Heap, Field, value_of}
use Rattle.type_normal.specs.Free.{no_values}
use Rattle.type_normal.specs.Holds.{holds}
use Rattle.type_normal.specs.Rows.{put_normal, put_row}
use Rattle.type_normal.specs.Operations.{union, meet_fields}
use Rattle.type_normal.specs.Kinds.{unknown}

-- the type of a field in a row: unknown if it isn't listed
abbrev pub listed_type : List ℕ → Fields → Term
listed_type name no_fields = unknown
listed_type name (more_fields other type fields) = if bytes_eq other name then type else listed_type name fields

-- the type of a field of the tables of a type: the union over the rows
abbrev pub type_in_rows : List ℕ → Rows → Term
type_in_rows name no_rows = never
type_in_rows name (more_rows frozen fields rows) = union (listed_type name fields) (type_in_rows name rows)

abbrev pub field_type : List ℕ → Term → Term
field_type name (term free rows) = type_in_rows name rows

-- fields without one, and with this type for it
abbrev pub without_field : List ℕ → Fields → Fields
without_field name no_fields = no_fields
without_field name (more_fields other type fields) = if bytes_eq other name then without_field name fields else more_fields other type (without_field name fields)

abbrev pub set_field : List ℕ → Term → Fields → Fields
set_field name type fields = meet_fields (more_fields name type no_fields) (without_field name fields)

-- each row with this type for this field
abbrev pub rows_with_field : List ℕ → Term → Rows → Rows
rows_with_field name type no_rows = no_rows
rows_with_field name type (more_rows frozen fields rows) =
    put_normal frozen (set_field name type fields) (rows_with_field name type rows)

-- a type after a field of its tables was written with a value of a type
abbrev pub with_row_field : List ℕ → Term → Term → Term
with_row_field name type (term free rows) = term free (rows_with_field name type rows)

-- each row, frozen
abbrev pub freeze_rows : Rows → Rows
freeze_rows no_rows = no_rows
freeze_rows (more_rows frozen fields rows) = put_row true fields (freeze_rows rows)

-- the tables of a type that are frozen
abbrev pub frozen_rows : Term → Term
frozen_rows (term free rows) = term no_values (freeze_rows rows)

-- whether the values of some fields are in the types that are given for their names
abbrev pub all_typed : Heap → List Field → Fields → Bool
all_typed heap fields no_fields = true
all_typed heap fields (more_fields name type types) = holds heap (value_of name fields) type && all_typed heap fields types
