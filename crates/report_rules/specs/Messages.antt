-- What a report says. Arguments count from 1 there.
use Rattle.std.specs.Prelude.{ℕ, suc, List, ◌++◌, codes, decimal}
use Rattle.luau_tree.specs.declared.names.UnOp.{UnOp}
use Rattle.luau_tree.specs.declared.names.UnOp.TheVariants.{Minus, Not, Length}
use Rattle.luau_tree.specs.declared.names.BinOp.{BinOp}
use Rattle.luau_tree.specs.declared.names.BinOp.TheVariants.{Or, And, Less, Greater, LessEqual, GreaterEqual, NotEqual, Equal, Concat, Add, Sub, Mul, Div, FloorDiv, Mod, Pow}
use Rattle.luau_tree.specs.declared.names.Op.{Op}
use Rattle.luau_tree.specs.declared.names.Op.TheVariants.{Call, Index, Write, For, Iterate, Unary, Binary}
use Rattle.report_rules.specs.Checks.{ReportKind, Argument, Missing, Operand, ValueOf, ParameterOf}

-- an operator, as it is written
abbrev pub unary_word : UnOp → List ℕ
unary_word Minus = codes "-"
unary_word Not = codes "not"
unary_word Length = codes "#"

abbrev pub binary_word : BinOp → List ℕ
binary_word Or = codes "or"
binary_word And = codes "and"
binary_word Less = codes "<"
binary_word Greater = codes ">"
binary_word LessEqual = codes "<="
binary_word GreaterEqual = codes ">="
binary_word NotEqual = codes "~="
binary_word Equal = codes "=="
binary_word Concat = codes ".."
binary_word Add = codes "+"
binary_word Sub = codes "-"
binary_word Mul = codes "*"
binary_word Div = codes "/"
binary_word FloorDiv = codes "//"
binary_word Mod = codes "%"
binary_word Pow = codes "^"

-- what an operand is an operand of. A compound assignment is its operation, so it stands without `=`
abbrev pub op_word : Op → List ℕ
op_word Call = codes "call"
op_word Index = codes "index"
op_word Write = codes "write"
op_word For = codes "for"
op_word Iterate = codes "iterate"
op_word (Unary op) = unary_word op
op_word (Binary op) = binary_word op

-- the message of a report
abbrev pub message : ReportKind → List ℕ
message (Argument index path) = codes "argument " ++ decimal (suc index) ++ codes " of " ++ path ++ codes " always fails"
message (Missing index path) = codes "argument " ++ decimal (suc index) ++ codes " of " ++ path ++ codes " is missing"
message (Operand op) = codes "operand of " ++ op_word op ++ codes " always fails"
message (ValueOf name) = codes "value of " ++ name ++ codes " always fails"
message (ParameterOf name) = codes "parameter " ++ name ++ codes " always fails"
