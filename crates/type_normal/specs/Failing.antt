-- The values with which an operation fails for certain, whatever the rest of the state is.
use Rattle.std.specs.Prelude.{Bool, true, false}
use Rattle.luau_values.specs.Value.{Value, Tab}
use Rattle.luau_values.specs.Heap.{Heap, is_frozen}
use Rattle.type_arena.specs.Term.{Term}
use Rattle.type_normal.specs.Operations.{union}
use Rattle.type_normal.specs.Kinds.{Kinds, kinds_type, frozen_type}

-- what can't be called
abbrev pub uncallable : Kinds
uncallable = record { nil = true; boolean = true; number = true; string = true; table = true; function = false; other = false }

-- what can't be indexed
abbrev pub unindexable : Kinds
unindexable = record { nil = true; boolean = true; number = true; string = false; table = false; function = true; other = false }

-- what has no fields that could be written, beside frozen tables
abbrev pub unwritable : Kinds
unwritable = record { nil = true; boolean = true; number = true; string = true; table = false; function = true; other = false }

-- what is no operand of arithmetic, of `..` or of unary minus, and no bound of a loop
abbrev pub no_operand : Kinds
no_operand = record { nil = true; boolean = true; number = false; string = false; table = true; function = true; other = false }

-- what has no length
abbrev pub no_length : Kinds
no_length = record { nil = true; boolean = true; number = true; string = false; table = false; function = true; other = false }

-- what can't be iterated over
abbrev pub no_iteration : Kinds
no_iteration = record { nil = true; boolean = true; number = true; string = true; table = false; function = false; other = false }

-- what has no order with a number, and what has none with a string
abbrev pub no_order_with_number : Kinds
no_order_with_number = record { nil = true; boolean = true; number = false; string = true; table = true; function = true; other = false }

abbrev pub no_order_with_string : Kinds
no_order_with_string = record { nil = true; boolean = true; number = true; string = false; table = true; function = true; other = false }

abbrev pub call_fail : Term
call_fail = kinds_type uncallable

abbrev pub index_fail : Term
index_fail = kinds_type unindexable

abbrev pub write_fail : Term
write_fail = union (kinds_type unwritable) frozen_type

abbrev pub arith_fail : Term
arith_fail = kinds_type no_operand

abbrev pub length_fail : Term
length_fail = kinds_type no_length

abbrev pub iter_fail : Term
iter_fail = kinds_type no_iteration

abbrev pub order_fail_with_number : Term
order_fail_with_number = kinds_type no_order_with_number

abbrev pub order_fail_with_string : Term
order_fail_with_string = kinds_type no_order_with_string

-- whether a value is a frozen table
abbrev pub is_frozen_table : Heap → Value → Bool
is_frozen_table heap (Tab address) = is_frozen heap address
is_frozen_table heap value = false
