-- Operators: their symbols, how tightly they bind, and which trees respect that.
use Rattle.std.specs.Prelude.{ℕ, ◌<◌, ◌≤◌, min, Bool, true, false, Option, Some, None}
use Rattle.luau_tree.specs.declared.names.UnOp.{UnOp}
use Rattle.luau_tree.specs.declared.names.UnOp.TheVariants as un
use Rattle.luau_tree.specs.declared.names.BinOp.{BinOp}
use Rattle.luau_tree.specs.declared.names.BinOp.TheVariants as bin
use Rattle.luau_tree.specs.Tree.{Expr, ExprKind}
use Rattle.luau_tree.specs.Tree as tree
use Rattle.luau_grammar.specs.declared.symbol.Symbol.{Symbol}
use Rattle.luau_grammar.specs.declared.symbol.Symbol.TheVariants as s

-- the binary operator that a symbol is
abbrev pub binary_of : Symbol → Option BinOp
binary_of s.Or = Some bin.Or
binary_of s.And = Some bin.And
binary_of s.Less = Some bin.Less
binary_of s.Greater = Some bin.Greater
binary_of s.LessEqual = Some bin.LessEqual
binary_of s.GreaterEqual = Some bin.GreaterEqual
binary_of s.NotEqual = Some bin.NotEqual
binary_of s.Equal = Some bin.Equal
binary_of s.DoubleDot = Some bin.Concat
binary_of s.Plus = Some bin.Add
binary_of s.Minus = Some bin.Sub
binary_of s.Star = Some bin.Mul
binary_of s.Slash = Some bin.Div
binary_of s.DoubleSlash = Some bin.FloorDiv
binary_of s.Percent = Some bin.Mod
binary_of s.Caret = Some bin.Pow
binary_of _ = None

-- the unary operator that a symbol is
abbrev pub unary_of : Symbol → Option UnOp
unary_of s.Minus = Some un.Minus
unary_of s.Not = Some un.Not
unary_of s.Hash = Some un.Length
unary_of _ = None

-- the operator of a compound assignment
abbrev pub compound_of : Symbol → Option BinOp
compound_of s.ConcatAssign = Some bin.Concat
compound_of s.AddAssign = Some bin.Add
compound_of s.SubAssign = Some bin.Sub
compound_of s.MulAssign = Some bin.Mul
compound_of s.DivAssign = Some bin.Div
compound_of s.FloorDivAssign = Some bin.FloorDiv
compound_of s.ModAssign = Some bin.Mod
compound_of s.PowAssign = Some bin.Pow
compound_of _ = None

-- how tightly a binary operator binds, from the loosest, 1, to the tightest
abbrev pub tightness : BinOp → ℕ
tightness bin.Or = 1
tightness bin.And = 2
tightness bin.Less = 3
tightness bin.Greater = 3
tightness bin.LessEqual = 3
tightness bin.GreaterEqual = 3
tightness bin.NotEqual = 3
tightness bin.Equal = 3
tightness bin.Concat = 4
tightness bin.Add = 5
tightness bin.Sub = 5
tightness bin.Mul = 6
tightness bin.Div = 6
tightness bin.FloorDiv = 6
tightness bin.Mod = 6
tightness bin.Pow = 8

-- how tightly a unary operator binds: only `^` binds tighter
abbrev pub unary_tightness : ℕ
unary_tightness = 7

-- tighter than each operator
abbrev pub no_operator : ℕ
no_operator = 9

-- whether a chain of an operator groups to the right
abbrev pub groups_right : BinOp → Bool
groups_right bin.Concat = true
groups_right bin.Pow = true
groups_right bin.Or = false
groups_right bin.And = false
groups_right bin.Less = false
groups_right bin.Greater = false
groups_right bin.LessEqual = false
groups_right bin.GreaterEqual = false
groups_right bin.NotEqual = false
groups_right bin.Equal = false
groups_right bin.Add = false
groups_right bin.Sub = false
groups_right bin.Mul = false
groups_right bin.Div = false
groups_right bin.FloorDiv = false
groups_right bin.Mod = false

abbrev mutual
  -- The loosest operator that an operator behind an expression could take its right operand from.
  pub loosest_right : Expr → ℕ
  loosest_right (tree.the_expr id span kind) = loosest_right_of kind

  pub loosest_right_of : ExprKind → ℕ
  loosest_right_of (tree.Binary op left right) = min (tightness op) (loosest_right right)
  loosest_right_of (tree.Unary op e) = min unary_tightness (loosest_right e)
  loosest_right_of _ = no_operator

abbrev mutual
  -- The loosest operator that an operator before an expression could take its left operand from. A unary operator
  -- has none.
  pub loosest_left : Expr → ℕ
  loosest_left (tree.the_expr id span kind) = loosest_left_of kind

  pub loosest_left_of : ExprKind → ℕ
  loosest_left_of (tree.Binary op left right) = min (tightness op) (loosest_left left)
  loosest_left_of _ = no_operator

-- A binary operator has its operands by the table: what stands at its left binds at least as tight, and at its right
-- tighter, or the other way where it groups to the right.
abbrev pub HasOperandsBy : Bool → ℕ → ℕ → ℕ → Type 0
HasOperandsBy true op left right = (op < left) × (op ≤ right)
HasOperandsBy false op left right = (op ≤ left) × (op < right)

abbrev pub HasOperands : BinOp → Expr → Expr → Type 0
HasOperands op left right = HasOperandsBy (groups_right op) (tightness op) (loosest_right left) (loosest_left right)

-- A unary operator has an operand whose operators bind tighter.
abbrev pub HasOperand : Expr → Type 0
HasOperand e = unary_tightness < loosest_left e
