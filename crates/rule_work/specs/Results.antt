-- What operations give, where their operands are known or not.
use Rattle.std.specs.Prelude.{Bool}
use Rattle.luau_tree.specs.declared.names.BinOp.{BinOp}
use Rattle.luau_tree.specs.declared.names.BinOp.TheVariants.{Less, Greater, LessEqual, GreaterEqual, NotEqual, Equal, Concat}
use Rattle.luau_tree.specs.declared.names.UnOp.{UnOp}
use Rattle.luau_tree.specs.declared.names.UnOp.TheVariants.{Not}
use Rattle.type_arena.specs.Term.{Term}
use Rattle.type_normal.specs.Kinds.{boolean_type, number_type, string_type}
use Rattle.report_rules.specs.Forward.{if_known}

-- a comparison gives true or false; arithmetic a number and `..` a string, if no operand may be a value of no other kind
abbrev pub result_term : BinOp → Bool → Term
result_term Equal known = boolean_type
result_term NotEqual known = boolean_type
result_term Less known = boolean_type
result_term Greater known = boolean_type
result_term LessEqual known = boolean_type
result_term GreaterEqual known = boolean_type
result_term Concat known = if_known known string_type
result_term op known = if_known known number_type

abbrev pub unary_result_term : UnOp → Bool → Term
unary_result_term Not known = boolean_type
unary_result_term op known = if_known known number_type
