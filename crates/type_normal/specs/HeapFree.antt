-- Which types stay true of a value while the heap changes, and what is left of a type or is added to it so that it does.
use Rattle.std.specs.Prelude.{ℕ, Bool, true, false, not, ◌&&◌, ◌||◌, if◌then◌else◌, List}
use Rattle.std.specs.Str.{bytes_eq}
use Rattle.type_arena.specs.Term.{Term, term, Rows, no_rows, more_rows, Fields, no_fields, more_fields}
use Rattle.type_normal.specs.Rows.{put_row, put_normal}

-- whether there are no fields
abbrev pub is_bare : Fields → Bool
is_bare no_fields = true
is_bare (more_fields name type _) = false

-- a type is heap-free if all its rows are; a row is if it has no fields, or is frozen and the types of all its fields are
abbrev mutual
  pub heap_free : Term → Bool
  heap_free (term free rows) = heap_free_rows rows

  pub heap_free_rows : Rows → Bool
  heap_free_rows no_rows = true
  heap_free_rows (more_rows frozen fields rows) = (is_bare fields || (frozen && heap_free_fields fields)) && heap_free_rows rows

  pub heap_free_fields : Fields → Bool
  heap_free_fields no_fields = true
  heap_free_fields (more_fields name type fields) = heap_free type && heap_free_fields fields

-- whether one row is heap-free
abbrev pub heap_free_row : Bool → Fields → Bool
heap_free_row frozen fields = is_bare fields || (frozen && heap_free_fields fields)

-- the rows that are heap-free
abbrev pub strip_rows : Rows → Rows
strip_rows no_rows = no_rows
strip_rows (more_rows frozen fields rows) = if heap_free_row frozen fields then more_rows frozen fields (strip_rows rows) else strip_rows rows

-- what is left of a type after the heap may have changed: each row that isn't heap-free is dropped
abbrev pub strip : Term → Term
strip (term free rows) = term free (strip_rows rows)

-- what a type becomes after the heap may have changed: a row that isn't frozen becomes that of all tables, and in a frozen
-- row the type of each field is widened
abbrev mutual
  pub widen : Term → Term
  widen (term free rows) = term free (widen_rows rows)

  pub widen_rows : Rows → Rows
  widen_rows no_rows = no_rows
  widen_rows (more_rows true fields rows) = put_normal true (widen_fields fields) (widen_rows rows)
  widen_rows (more_rows false _ rows) = put_row false no_fields (widen_rows rows)

  pub widen_fields : Fields → Fields
  widen_fields no_fields = no_fields
  widen_fields (more_fields name type fields) = more_fields name (widen type) (widen_fields fields)

-- whether a field of this name is listed, at some depth
abbrev mutual
  pub lists : List ℕ → Term → Bool
  lists name (term free rows) = rows_list name rows

  pub rows_list : List ℕ → Rows → Bool
  rows_list name no_rows = false
  rows_list name (more_rows frozen fields rows) = fields_list name fields || rows_list name rows

  pub fields_list : List ℕ → Fields → Bool
  fields_list name no_fields = false
  fields_list name (more_fields other type fields) = bytes_eq other name || (lists name type || fields_list name fields)

-- the rows that are heap-free or list no field of this name, at any depth
abbrev pub strip_rows_at : List ℕ → Rows → Rows
strip_rows_at name no_rows = no_rows
strip_rows_at name (more_rows frozen fields rows) =
    if heap_free_row frozen fields || not (fields_list name fields) then more_rows frozen fields (strip_rows_at name rows) else strip_rows_at name rows

-- what is left of a type after fields of this name may have been written
abbrev pub strip_at : List ℕ → Term → Term
strip_at name (term free rows) = term free (strip_rows_at name rows)

-- what a type becomes after fields of this name may have been written: rows that aren't frozen lose the field, at every depth
abbrev mutual
  pub widen_at : List ℕ → Term → Term
  widen_at name (term free rows) = term free (widen_rows_at name rows)

  pub widen_rows_at : List ℕ → Rows → Rows
  widen_rows_at name no_rows = no_rows
  widen_rows_at name (more_rows frozen fields rows) = put_normal frozen (widen_fields_at name frozen fields) (widen_rows_at name rows)

  pub widen_fields_at : List ℕ → Bool → Fields → Fields
  widen_fields_at name frozen no_fields = no_fields
  widen_fields_at name frozen (more_fields other type fields) =
      if not frozen && bytes_eq other name then widen_fields_at name frozen fields
      else more_fields other (widen_at name type) (widen_fields_at name frozen fields)

-- whether fields have one of this name
abbrev pub has_field : List ℕ → Fields → Bool
has_field name no_fields = false
has_field name (more_fields other type fields) = bytes_eq other name || has_field name fields

-- a type is free of a name if no row at any depth that isn't frozen has a field of it
abbrev mutual
  pub free_of_name : List ℕ → Term → Bool
  free_of_name name (term free rows) = rows_free_of name rows

  pub rows_free_of : List ℕ → Rows → Bool
  rows_free_of name no_rows = true
  rows_free_of name (more_rows frozen fields rows) = ((frozen || not (has_field name fields)) && fields_free_of name fields) && rows_free_of name rows

  pub fields_free_of : List ℕ → Fields → Bool
  fields_free_of name no_fields = true
  fields_free_of name (more_fields other type fields) = free_of_name name type && fields_free_of name fields
