-- The kinds of types, the types of one value, and rows.
use Rattle.std.specs.Prelude.{ℕ, Bool, true, false, not, ◌≡◌, List, [], ◌∷◌, Option, Some, None, if◌then◌else◌}
use Rattle.type_arena.specs.Term.{Members, only, all_but, Function, builtin, literal, Free, Term, term, Rows, no_rows, Fields, no_fields, more_fields}
use Rattle.luau_values.specs.Value.{Value, Nil, Truth, Num, Str, Tab, Lit, Builtin, Other}
use Rattle.type_normal.specs.Free.{no_values, all_values, is_no_free}
use Rattle.type_normal.specs.Rows.{any_table, put_normal}
use Rattle.type_normal.specs.Operations.{not_free}

abbrev pub unknown : Term
unknown = term all_values any_table

abbrev pub nil_type : Term
nil_type = term (record no_values { nil = true }) no_rows

abbrev pub true_type : Term
true_type = term (record no_values { truth = true }) no_rows

abbrev pub false_type : Term
false_type = term (record no_values { falsity = true }) no_rows

abbrev pub boolean_type : Term
boolean_type = term (record no_values { truth = true; falsity = true }) no_rows

abbrev pub number_type : Term
number_type = term (record no_values { number = true }) no_rows

abbrev pub string_type : Term
string_type = term (record no_values { strings = all_but [] }) no_rows

abbrev pub function_type : Term
function_type = term (record no_values { functions = all_but [] }) no_rows

abbrev pub other_type : Term
other_type = term (record no_values { other = true }) no_rows

abbrev pub table_type : Term
table_type = term no_values any_table

-- one string
abbrev pub text_type : List ℕ → Term
text_type bytes = term (record no_values { strings = only (bytes ∷ []) }) no_rows

-- one function
abbrev pub named_type : Function → Term
named_type function = term (record no_values { functions = only (function ∷ []) }) no_rows

-- the tables whose fields are in these types, and that are frozen if they have to be
abbrev pub row_type : Bool → Fields → Term
row_type frozen fields = term no_values (put_normal frozen fields no_rows)

-- the tables with one field in a type
abbrev pub field_is : List ℕ → Term → Term
field_is name type = row_type false (more_fields name type no_fields)

-- the frozen tables
abbrev pub frozen_type : Term
frozen_type = row_type true no_fields

-- nil or false, and all other values
abbrev pub falsy : Term
falsy = term (record no_values { nil = true; falsity = true }) no_rows

abbrev pub truthy : Term
truthy = not_free falsy

-- whether nil belongs to a type
abbrev pub has_nil : Term → Bool
has_nil (term free rows) = free.nil

-- whether all values that belong to a free part are functions
abbrev pub has_functions_alone : Free → Bool
has_functions_alone free = is_no_free (record free { functions = only [] })

-- the function of a type whose only value is one function
abbrev pub only_function : Members Function → Option Function
only_function (only (function ∷ [])) = Some function
only_function _ = None

abbrev pub exactly_one_function : Term → Option Function
exactly_one_function (term free no_rows) = if has_functions_alone free then only_function free.functions else None
exactly_one_function (term free _) = None

-- whether a value is nil or false
abbrev pub is_falsy : Value → Bool
is_falsy Nil = true
is_falsy (Truth truth) = not truth
is_falsy _ = false

-- a value is a certain function: the builtin with its path, or a closure of the literal with its home and its number
abbrev pub IsFunction : Function → Value → Type 0
IsFunction (builtin path) value = value ≡ Builtin path
IsFunction (literal home number) value = (cells : List (ℕ × ℕ)) × (value ≡ Lit home number cells)

-- some kinds of values
pub record Kinds : Type 0 where
  pub nil : Bool
  pub boolean : Bool
  pub number : Bool
  pub string : Bool
  pub table : Bool
  pub function : Bool
  pub other : Bool

-- whether a value is of one of some kinds
abbrev pub has_kind : Kinds → Value → Bool
has_kind kinds Nil = kinds.nil
has_kind kinds (Truth truth) = kinds.boolean
has_kind kinds (Num text) = kinds.number
has_kind kinds (Str bytes) = kinds.string
has_kind kinds (Tab address) = kinds.table
has_kind kinds (Lit home number cells) = kinds.function
has_kind kinds (Builtin path) = kinds.function
has_kind kinds (Other number) = kinds.other

-- all members of a set, or none
abbrev pub all_or_none : {X : Type 0} → Bool → Members X
all_or_none true = all_but []
all_or_none false = only []

-- all tables, or none
abbrev pub all_tables_or_none : Bool → Rows
all_tables_or_none true = any_table
all_tables_or_none false = no_rows

-- the values of some kinds
abbrev pub kinds_type : Kinds → Term
kinds_type kinds =
    term (record {
      nil = kinds.nil;
      truth = kinds.boolean;
      falsity = kinds.boolean;
      number = kinds.number;
      other = kinds.other;
      strings = all_or_none kinds.string;
      functions = all_or_none kinds.function;
    }) (all_tables_or_none kinds.table)
