-- What the parser `assertion` reads: an operand without operators, `simple ['::' type]`.
use Rattle.std.specs.Prelude.{◌≡◌}
use Rattle.luau_tree.specs.Tree.{Expr, ExprKind}
use Rattle.luau_tree.specs.Tree as tree
use Rattle.luau_grammar.specs.Places.{Place, Rules, over}
use Rattle.luau_grammar.specs.Phrases.{Phrases}
use Rattle.luau_grammar.specs.Expressions.{IsOperationForm}

module _ (rules : Rules) (inner : Phrases) where
  -- the forms of an operation but for those with operators
  abbrev pub IsAssertionForm : Place → Place → ExprKind → Type 0
  IsAssertionForm p q (tree.Binary op left right) = ⊥
  IsAssertionForm p q (tree.Unary op e) = ⊥
  IsAssertionForm p q kind = IsOperationForm rules inner p q kind

  abbrev pub IsAssertion : Place → Place → Expr → Type 0
  IsAssertion p q (tree.the_expr id span kind) = (id ≡ 0) × (span ≡ over p q) × IsAssertionForm p q kind
