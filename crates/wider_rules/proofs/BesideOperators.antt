-- The parsers of operations, by two settings side by side.
use Rattle.std.proofs.Common.{ℕ, zero, suc, ◌+◌, length, Option, Some, None, is_some}
use Rattle.luau_tree.specs.declared.names.UnOp.{UnOp}
use Rattle.luau_tree.specs.declared.names.BinOp.{BinOp}
use Rattle.luau_tree.specs.Tree.{Expr}
use Rattle.luau_tree.specs.Tree as tree
use Rattle.luau_grammar.specs.Places.{symbol}
use Rattle.luau_grammar.specs.Operators.{binary_of, unary_of, unary_tightness}
use Rattle.luau_grammar.specs.Reading.{Setting, Parser, Readers, refuse}
use Rattle.luau_grammar.specs.ReadExpressions as code
use Rattle.wider_rules.proofs.Beside.{Pair, top, Beside, both, by_place, done, at_start, at_span}
use Rattle.wider_rules.proofs.BesideTokens.{refuses, next_low, raises}
use Rattle.wider_rules.proofs.BesideSteps.{steps}
use Rattle.wider_rules.proofs.BesideTypes.{Held, ceil_top}
use Rattle.wider_rules.proofs.BesideExpressions as terms

-- an operator and its right operand, where one comes next
abbrev by_operator : Setting → Readers → (ℕ → Parser Expr) → ℕ → Expr → Option BinOp → Parser Expr
by_operator set inner operation from left None = refuse set
by_operator set inner operation from left (Some op) = code.binary set inner operation from left op

module _ (f : Pair) (lo : ℕ) (low high : Readers) (held : Held f (lo + 1) low high) (one other : ℕ → Parser Expr)
    (right : (at : ℕ) → Beside f lo (top f) (top f) (one at) (other at)) where
  unary_beside : (op : UnOp) → Beside f lo (top f) (top f) (code.unary f.low low (one unary_tightness) op) (code.unary f.high high (other unary_tightness) op)
  unfolding code.unary
  unary_beside op =
      both f (at_start f) (λ from. both f (next_low f (ceil_top f)) (λ _. both f (raises f) (λ _. both f (right unary_tightness) (λ e. both f (at_span f from) (λ span.
      done f (tree.the_expr 0 span (tree.Unary op e)))))))

  operand_by_beside : (o : Option UnOp) → Beside f lo (top f) (top f) (code.operand_by f.low low one o) (code.operand_by f.high high other o)
  operand_by_beside None = terms.assertion_beside f lo low high held
  operand_by_beside (Some op) = unary_beside op

  operand_beside : Beside f lo (top f) (top f) (code.operand f.low low one) (code.operand f.high high other)
  unfolding code.operand
  operand_beside = by_place f (λ p. unary_of (symbol p)) (code.operand_by f.low low one) (code.operand_by f.high high other) operand_by_beside

  binary_beside : (from : ℕ) (left : Expr) (op : BinOp) → Beside f lo (top f) (top f) (code.binary f.low low one from left op) (code.binary f.high high other from left op)
  unfolding code.binary
  binary_beside from left op =
      both f (next_low f (ceil_top f)) (λ _. both f (raises f) (λ _. both f (right (code.right_least op)) (λ e. both f (at_span f from) (λ span.
      done f (tree.the_expr 0 span (tree.Binary op left e))))))

  climb_by_beside : (from : ℕ) (left : Expr) (o : Option BinOp) → Beside f lo (top f) (top f) (by_operator f.low low one from left o) (by_operator f.high high other from left o)
  climb_by_beside from left None = refuses f
  climb_by_beside from left (Some op) = binary_beside from left op

  step_beside : (from : ℕ) (left : Expr) → Beside f lo (top f) (top f) (code.climb_step f.low low one from left) (code.climb_step f.high high other from left)
  step_beside from left = by_place f (λ p. binary_of (symbol p)) (by_operator f.low low one from left) (by_operator f.high high other from left) (climb_by_beside from left)

  from_beside : (at from : ℕ) (first : Expr) → Beside f lo (top f) (top f) (code.climb_from f.low low one at from first) (code.climb_from f.high high other at from first)
  unfolding code.climb_from
  from_beside at from first =
      steps f lo (top f) (λ _ p. is_some (code.tighter at p)) (code.climb_step f.low low one from) (code.climb_step f.high high other from) (step_beside from) first

  pub climb_beside : (at : ℕ) → Beside f lo (top f) (top f) (code.climb f.low low one at) (code.climb f.high high other at)
  unfolding code.climb
  climb_beside at = both f (at_start f) (λ from. both f operand_beside (λ first. from_beside at from first))

module _ (f : Pair) (lo : ℕ) (low high : Readers) (held : Held f (lo + 1) low high) where
  operation_beside : (turns at : ℕ) → Beside f lo (top f) (top f) (code.operation f.low low turns at) (code.operation f.high high turns at)
  unfolding code.operation
  operation_beside zero at = refuses f
  operation_beside (suc turns) at = climb_beside f lo low high held (code.operation f.low low turns) (code.operation f.high high turns) (operation_beside turns) at

  pub expression_inside_beside : Beside f lo (top f) (top f) (code.expression_inside f.low low) (code.expression_inside f.high high)
  unfolding code.expression_inside
  expression_inside_beside = record {
    alike = λ p i. (operation_beside (length p.ahead) 0).alike p i;
    low_far = λ p b. (operation_beside (length p.ahead) 0).low_far p b;
    high_far = λ p b. (operation_beside (length p.ahead) 0).high_far p b;
  }
