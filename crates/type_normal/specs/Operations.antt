-- Unions, meets and complements of types, in normal form where the types are.
use Rattle.std.specs.Prelude.{ℕ, Bool, true, false, ◌||◌, List}
use Rattle.type_arena.specs.Term.{Term, term, Rows, no_rows, more_rows, Fields, no_fields, more_fields}
use Rattle.type_normal.specs.Members.{by_order}
use Rattle.type_normal.specs.Free.{name_cmp, either_free, both_free, outside_free}
use Rattle.type_normal.specs.Rows.{put_rows, rows_in_order, put_normal, any_table}

-- the values of one of two types: the free parts are joined, and the rows of both stand in order
abbrev pub union : Term → Term → Term
union (term free rows) (term other others) = term (either_free free other) (put_rows rows (rows_in_order others))

-- fields with one more, whose type is met with that of a field of this name
abbrev pub put_field : List ℕ → Term → (Term → Term) → Fields → Fields
put_field name type with_type no_fields = more_fields name type no_fields
put_field name type with_type (more_fields next next_type fields) =
    by_order (name_cmp name next)
    (more_fields name type (more_fields next next_type fields))
    (more_fields next (with_type next_type) fields)
    (more_fields next next_type (put_field name type with_type fields))

-- a row met with each of some rows, beside further rows; what is met is frozen where one of the two is
abbrev pub meet_each : Bool → (Fields → Fields) → Rows → Rows → Rows
meet_each frozen with_fields no_rows further = further
meet_each frozen with_fields (more_rows other_frozen others rows) further =
    put_normal (frozen || other_frozen) (with_fields others) (meet_each frozen with_fields rows further)

-- the values of both types: the free parts are met, and each row with each row; fields of one name meet
abbrev mutual
  pub meet : Term → Term → Term
  meet (term free rows) (term other others) = term (both_free free other) (meet_rows rows others)

  pub meet_rows : Rows → Rows → Rows
  meet_rows no_rows others = no_rows
  meet_rows (more_rows frozen fields rows) others = meet_each frozen (meet_fields fields) others (meet_rows rows others)

  pub meet_fields : Fields → Fields → Fields
  meet_fields no_fields others = others
  meet_fields (more_fields name type fields) others = put_field name type (meet type) (meet_fields fields others)

-- the row of all tables where there are no rows, and no row where there are some
abbrev pub other_tables : Rows → Rows
other_tables no_rows = any_table
other_tables (more_rows frozen _ rows) = no_rows

-- the values that don't belong to a type whose rows are none, or the row of all tables alone
abbrev pub not_free : Term → Term
not_free (term free rows) = term (outside_free free) (other_tables rows)

-- whether a type has no rows, or the row of all tables alone
abbrev pub is_flat : Term → Bool
is_flat (term free no_rows) = true
is_flat (term free (more_rows false no_fields no_rows)) = true
is_flat (term free _) = false

-- a type with the row of all tables for its rows, where it has some
abbrev pub with_tables : Term → Term
with_tables (term free no_rows) = term free no_rows
with_tables (term free (more_rows frozen _ rows)) = term free any_table

-- what fails for certain where a value of a type is wanted: no value that belongs to the type in any heap
abbrev pub fail : Term → Term
fail wanted = not_free (with_tables wanted)
