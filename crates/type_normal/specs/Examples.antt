-- Types that the computed examples speak of.
use Rattle.std.specs.Prelude.{ℕ, zero, suc, Bool, true, List, replicate, codes}
use Rattle.type_arena.specs.Term.{Term, term, never, no_rows, more_rows, Fields, no_fields, more_fields}
use Rattle.type_normal.specs.Free.{no_values}
use Rattle.type_normal.specs.Operations.{union}
use Rattle.type_normal.specs.Kinds.{nil_type, string_type, text_type, field_is, row_type}

-- the names x and y
abbrev pub x : List ℕ
x = codes "x"

abbrev pub y : List ℕ
y = codes "y"

-- the tables whose field x is a string, and the frozen ones of these
abbrev pub x_is_string : Term
x_is_string = field_is x string_type

abbrev pub frozen_x_is_string : Term
frozen_x_is_string = row_type true (more_fields x string_type no_fields)

-- the frozen tables whose field y is a table that isn't frozen and whose field x is a string
abbrev pub mixed : Term
mixed = row_type true (more_fields y x_is_string no_fields)

-- the union of as many rows, whose field x is one string each
abbrev pub rows_of_texts : ℕ → Term
rows_of_texts zero = never
rows_of_texts (suc n) = union (field_is x (text_type (replicate n 97))) (rows_of_texts n)

-- a type of this depth
abbrev pub nested : ℕ → Term
nested zero = nil_type
nested (suc n) = field_is x (nested n)

-- the fields x and y with these types
abbrev pub x_and_y : Term → Term → Fields
x_and_y first second = more_fields x first (more_fields y second no_fields)

-- the field x alone
abbrev pub x_alone : Term → Fields
x_alone type = more_fields x type no_fields

-- the tables of two rows, as they are given
abbrev pub two_rows : Bool → Fields → Bool → Fields → Term
two_rows frozen fields other_frozen others = term no_values (more_rows frozen fields (more_rows other_frozen others no_rows))
