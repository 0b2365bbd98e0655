-- What declared builtins take and give, as types.
use Rattle.std.specs.Prelude.{ℕ, Bool, List, map, Option, option_map}
use Rattle.std.specs.List.{find}
use Rattle.std.specs.Str.{bytes_eq}
use Rattle.type_arena.specs.Term.{Term}
use Rattle.type_normal.specs.Operations.{union}
use Rattle.type_normal.specs.Kinds.{unknown, nil_type, boolean_type, number_type, string_type, function_type, table_type, other_type}
use Rattle.builtin_table.specs.declared.table.Kinds.{Kinds}
use Rattle.builtin_table.specs.declared.table.Kinds.TheVariants.{Unknown, Number, Text, Boolean, Table, Function, OptionalNumber, OptionalText, OptionalBoolean, OptionalFunction, TableOrOther}
use Rattle.builtin_table.specs.Standard.{Declared, declared_by, standard}

-- what a builtin's arguments and results are in: `rest` speaks of the arguments past the parameters, which are free without
-- it, and `more` of the results past the declared ones, of which there are none without it. A checked builtin fails on other
-- arguments; a quiet one writes no field of a table that was there, and calls nothing
pub record Signature : Type 0 where
  pub params : List Term
  pub rest : Option Term
  pub results : List Term
  pub more : Option Term
  pub checked : Bool
  pub quiet : Bool

-- a type of the standard table
abbrev pub term_of_kinds : Kinds → Term
term_of_kinds Unknown = unknown
term_of_kinds Number = number_type
term_of_kinds Text = string_type
term_of_kinds Boolean = boolean_type
term_of_kinds Table = table_type
term_of_kinds Function = function_type
term_of_kinds OptionalNumber = union number_type nil_type
term_of_kinds OptionalText = union string_type nil_type
term_of_kinds OptionalBoolean = union boolean_type nil_type
term_of_kinds OptionalFunction = union function_type nil_type
term_of_kinds TableOrOther = union table_type other_type

-- what a line of the standard table says, as types
abbrev pub signature_of : Declared → Signature
signature_of declared = record {
  params = map term_of_kinds declared.params;
  rest = option_map term_of_kinds declared.rest;
  results = map term_of_kinds declared.results;
  more = option_map term_of_kinds declared.more;
  checked = declared.checked;
  quiet = declared.quiet;
}

-- the standard table: each declared path, in their order, with its signature
abbrev pub standard_table : List (List ℕ × Signature)
standard_table = map (λ entry. (entry.0, signature_of (declared_by entry.1))) standard

-- the signature of a path in a table, if it is declared
abbrev pub declaration : List ℕ → List (List ℕ × Signature) → Option Signature
declaration path table = option_map (λ entry. entry.1) (find (λ entry. bytes_eq entry.0 path) table)
