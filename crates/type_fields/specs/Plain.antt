-- The types that are made of whole kinds of values.
use Rattle.std.specs.Prelude.{true, false, List, [], ◌∷◌}
use Rattle.type_arena.specs.Term.{Term, term, never, Rows, no_rows, more_rows, no_fields}
use Rattle.type_arena.specs.declared.node.Row.{Row}
use Rattle.type_normal.specs.Failing.{call_fail, index_fail, write_fail, arith_fail, length_fail, iter_fail, order_fail_with_number, order_fail_with_string}
use Rattle.type_normal.specs.Kinds.{unknown, nil_type, true_type, false_type, boolean_type, number_type, string_type, function_type, other_type, table_type, frozen_type, falsy, truthy, all_or_none}
use Rattle.type_normal.specs.Rows.{any_table}
use Rattle.type_fields.specs.declared.plain.Plain.{Plain}
use Rattle.type_fields.specs.declared.plain.Plain.TheVariants.{Never, Unknown, Nil, True, False, Boolean, Number, AnyString, AnyFunction, Other, AnyTable, FrozenTable, Falsy, Truthy}
use Rattle.type_fields.specs.declared.failing.Operation.{Operation}
use Rattle.type_fields.specs.declared.failing.Operation.TheVariants.{Call, Index, Write, Arith, Length, Iterate, OrderWithNumber, OrderWithString}
use Rattle.type_fields.specs.declared.plain.Parts.{Parts}
use Rattle.type_fields.specs.declared.plain.Tables.{Tables}
use Rattle.type_fields.specs.declared.plain.Tables.TheVariants.{NoTable, OnlyFrozen, Every}

-- the type of each name
abbrev pub plain_term : Plain → Term
plain_term Never = never
plain_term Unknown = unknown
plain_term Nil = nil_type
plain_term True = true_type
plain_term False = false_type
plain_term Boolean = boolean_type
plain_term Number = number_type
plain_term AnyString = string_type
plain_term AnyFunction = function_type
plain_term Other = other_type
plain_term AnyTable = table_type
plain_term FrozenTable = frozen_type
plain_term Falsy = falsy
plain_term Truthy = truthy

-- the values with which each operation fails
abbrev pub failing_term : Operation → Term
failing_term Call = call_fail
failing_term Index = index_fail
failing_term Write = write_fail
failing_term Arith = arith_fail
failing_term Length = length_fail
failing_term Iterate = iter_fail
failing_term OrderWithNumber = order_fail_with_number
failing_term OrderWithString = order_fail_with_string

-- no tables, the frozen ones, or all
abbrev pub rows_of_tables : Tables → Rows
rows_of_tables NoTable = no_rows
rows_of_tables OnlyFrozen = more_rows true no_fields no_rows
rows_of_tables Every = any_table

abbrev pub row_of_tables : Tables → List Row
row_of_tables NoTable = []
row_of_tables OnlyFrozen = record { frozen = true; fields = [] } ∷ []
row_of_tables Every = record { frozen = false; fields = [] } ∷ []

-- the type with these parts
abbrev pub parts_type : Parts → Term
parts_type parts =
    term (record {
      nil = parts.nil;
      truth = parts.truth;
      falsity = parts.falsity;
      number = parts.number;
      other = parts.other;
      strings = all_or_none parts.strings;
      functions = all_or_none parts.functions;
    }) (rows_of_tables parts.tables)
