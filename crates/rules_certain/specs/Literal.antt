-- Literals, as they stand in a text.
use Rattle.std.specs.Prelude.{ℕ, Bool, true, false, List}
use Rattle.luau_tree.specs.Tree.{ExprKind, NilExpr, TrueExpr, FalseExpr, NumberExpr, StrExpr}

-- a literal: nil, a boolean, a number by its text, or a string by its bytes
pub data Literal : Type 0 where
  NilLiteral : Literal
  TruthLiteral : (truth : Bool) → Literal
  NumberLiteral : (text : List ℕ) → Literal
  StrLiteral : (bytes : List ℕ) → Literal

-- whether a literal is a number
abbrev pub is_number : Literal → Bool
is_number (NumberLiteral text) = true
is_number _ = false

-- the expression that a literal is
abbrev pub kind_of : Literal → ExprKind
kind_of NilLiteral = NilExpr
kind_of (TruthLiteral true) = TrueExpr
kind_of (TruthLiteral false) = FalseExpr
kind_of (NumberLiteral text) = NumberExpr text
kind_of (StrLiteral bytes) = StrExpr bytes
