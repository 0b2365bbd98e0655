-- Rows and their fields in order. Rows that need no frozen table come first; then the names of the fields decide, and then
-- their types. The fields of a row are in the order of their names.
use Rattle.std.specs.Prelude.{Bool, true, false, not, ◌&&◌, ◌||◌, if◌then◌else◌}
use Rattle.std.specs.declared.cmp.Ordering.{Ordering}
use Rattle.std.specs.declared.cmp.Ordering.TheVariants.{Less, Equal, Greater}
use Rattle.std.specs.Ordering.{is_lt, bool_cmp, ordering_then}
use Rattle.type_arena.specs.Term.{Term, term, Rows, no_rows, more_rows, Fields, no_fields, more_fields}
use Rattle.type_normal.specs.Members.{by_order}
use Rattle.type_normal.specs.Free.{is_no_free, is_whole_free, free_cmp, name_cmp, is_normal_free}

-- how the names of fields compare
abbrev pub names_cmp : Fields → Fields → Ordering
names_cmp no_fields no_fields = Equal
names_cmp no_fields (more_fields name type _) = Less
names_cmp (more_fields name type _) no_fields = Greater
names_cmp (more_fields name type fields) (more_fields other other_type others) = ordering_then (name_cmp name other) (names_cmp fields others)

-- how types, rows and the types of fields compare: a type by its free part and then by its rows
abbrev mutual
  pub term_cmp : Term → Term → Ordering
  term_cmp (term free rows) (term other others) = ordering_then (free_cmp free other) (rows_cmp rows others)

  pub rows_cmp : Rows → Rows → Ordering
  rows_cmp no_rows no_rows = Equal
  rows_cmp no_rows (more_rows frozen _ rows) = Less
  rows_cmp (more_rows frozen _ rows) no_rows = Greater
  rows_cmp (more_rows frozen fields rows) (more_rows other_frozen other_fields others) =
      ordering_then (bool_cmp frozen other_frozen)
      (ordering_then (names_cmp fields other_fields) (ordering_then (types_cmp fields other_fields) (rows_cmp rows others)))

  pub types_cmp : Fields → Fields → Ordering
  types_cmp no_fields no_fields = Equal
  types_cmp no_fields (more_fields name type _) = Less
  types_cmp (more_fields name type _) no_fields = Greater
  types_cmp (more_fields name type fields) (more_fields other other_type others) = ordering_then (term_cmp type other_type) (types_cmp fields others)

-- how two rows compare
abbrev pub row_cmp : Bool → Fields → Bool → Fields → Ordering
row_cmp frozen fields other_frozen other_fields =
    ordering_then (bool_cmp frozen other_frozen) (ordering_then (names_cmp fields other_fields) (types_cmp fields other_fields))

-- rows in order with one more, unless it is there
abbrev pub put_row : Bool → Fields → Rows → Rows
put_row frozen fields no_rows = more_rows frozen fields no_rows
put_row frozen fields (more_rows first_frozen first rows) =
    by_order (row_cmp frozen fields first_frozen first)
    (more_rows frozen fields (more_rows first_frozen first rows))
    (more_rows first_frozen first rows)
    (more_rows first_frozen first (put_row frozen fields rows))

-- the rows of both lists in order, each once, where the second is in order
abbrev pub put_rows : Rows → Rows → Rows
put_rows no_rows others = others
put_rows (more_rows frozen fields rows) others = put_row frozen fields (put_rows rows others)

-- rows in order, each once
abbrev pub rows_in_order : Rows → Rows
rows_in_order rows = put_rows rows no_rows

-- the row of all tables, alone
abbrev pub any_table : Rows
any_table = more_rows false no_fields no_rows

-- whether a type is empty, and whether it is unknown, by form
abbrev pub is_empty : Term → Bool
is_empty (term free no_rows) = is_no_free free
is_empty (term free (more_rows frozen _ rows)) = false

abbrev pub is_unknown : Term → Bool
is_unknown (term free (more_rows false no_fields no_rows)) = is_whole_free free
is_unknown (term free _) = false

-- whether one of the fields has an empty type
abbrev pub has_empty : Fields → Bool
has_empty no_fields = false
has_empty (more_fields name type fields) = is_empty type || has_empty fields

-- the fields whose type isn't unknown
abbrev pub known_fields : Fields → Fields
known_fields no_fields = no_fields
known_fields (more_fields name type fields) = if is_unknown type then known_fields fields else more_fields name type (known_fields fields)

-- rows in order with a row in normal form: a field of type unknown is dropped, and a row with an empty field is
abbrev pub put_normal : Bool → Fields → Rows → Rows
put_normal frozen fields rows = if has_empty fields then rows else put_row frozen (known_fields fields) rows

-- whether each of some fields comes before the next by its name
abbrev pub names_in_order : Fields → Bool
names_in_order no_fields = true
names_in_order (more_fields name type no_fields) = true
names_in_order (more_fields name type (more_fields next next_type fields)) = is_lt (name_cmp name next) && names_in_order (more_fields next next_type fields)

-- whether a row comes before the first of some rows
abbrev pub comes_first : Bool → Fields → Rows → Bool
comes_first frozen _ no_rows = true
comes_first frozen fields (more_rows next_frozen next rows) = is_lt (row_cmp frozen fields next_frozen next)

-- normal form: all lists in order and without repeats, and no field that is unknown or empty, at every depth
abbrev mutual
  pub is_normal : Term → Bool
  is_normal (term free rows) = is_normal_free free && are_normal_rows rows

  pub are_normal_rows : Rows → Bool
  are_normal_rows no_rows = true
  are_normal_rows (more_rows frozen fields rows) = (names_in_order fields && are_normal_fields fields) && (comes_first frozen fields rows && are_normal_rows rows)

  pub are_normal_fields : Fields → Bool
  are_normal_fields no_fields = true
  are_normal_fields (more_fields name type fields) = is_normal type && (not (is_empty type || is_unknown type) && are_normal_fields fields)
