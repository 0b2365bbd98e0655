-- Types of bounded size. A type of at most 16 rows, here and in the type of each field at every depth, whose depth is at most
-- 8, is kept; any other keeps nothing of its rows but that tables belong to it.
use Rattle.std.specs.Prelude.{ℕ, ◌+◌, max, Bool, true, false, ◌&&◌, nat_le, if◌then◌else◌}
use Rattle.type_arena.specs.Term.{Term, term, Rows, no_rows, more_rows, Fields, no_fields, more_fields}
use Rattle.type_normal.specs.Rows.{any_table}

-- the depth is 0 without fields, and else one more than the greatest depth of the type of a field
abbrev mutual
  pub depth : Term → ℕ
  depth (term free rows) = depth_of_rows rows

  pub depth_of_rows : Rows → ℕ
  depth_of_rows no_rows = 0
  depth_of_rows (more_rows frozen fields rows) = max (depth_of_fields fields) (depth_of_rows rows)

  pub depth_of_fields : Fields → ℕ
  depth_of_fields no_fields = 0
  depth_of_fields (more_fields name type fields) = max (1 + depth type) (depth_of_fields fields)

-- how many rows there are
abbrev pub count_rows : Rows → ℕ
count_rows no_rows = 0
count_rows (more_rows frozen _ rows) = 1 + count_rows rows

-- whether a type and the type of each field at every depth has at most this many rows
abbrev mutual
  pub has_few_rows : ℕ → Term → Bool
  has_few_rows most (term free rows) = nat_le (count_rows rows) most && rows_have_few most rows

  pub rows_have_few : ℕ → Rows → Bool
  rows_have_few most no_rows = true
  rows_have_few most (more_rows frozen fields rows) = fields_have_few most fields && rows_have_few most rows

  pub fields_have_few : ℕ → Fields → Bool
  fields_have_few most no_fields = true
  fields_have_few most (more_fields name type fields) = has_few_rows most type && fields_have_few most fields

-- whether a type is kept
abbrev pub is_small : Term → Bool
is_small type = nat_le (depth type) 8 && has_few_rows 16 type

-- whether the row of all tables is among some rows
abbrev pub has_any_table : Rows → Bool
has_any_table no_rows = false
has_any_table (more_rows false no_fields rows) = true
has_any_table (more_rows frozen _ rows) = has_any_table rows

-- a smaller type: of one that isn't kept, its free part, and the row of all tables if it is there
abbrev pub few_values : Term → Term
few_values (term free rows) = term free (if has_any_table rows then any_table else no_rows)

abbrev pub cut_down : Term → Term
cut_down type = if is_small type then type else few_values type

-- a larger type: of one that isn't kept, its free part and the row of all tables
abbrev pub many_values : Term → Term
many_values (term free rows) = term free any_table

abbrev pub cut_up : Term → Term
cut_up type = if is_small type then type else many_values type
