-- What the code's results are, seen as plain data.
use Rattle.std.specs.Prelude.{◌≡◌, ℕ, Result, IfOk}
use Rattle.luau_tree.specs.declared.position.Span.{Span}
use Rattle.luau_tree.specs.Tree.{Expr, ExprKind, Block, the_expr}
use Rattle.tree_numbers.specs.declared.error.NumberError.{NumberError}
use Rattle.tree_numbers.specs.declared.numbers.Numbers.{Numbers}
use Rattle.tree_numbers.specs.Counting.{Counting, ◌>>=◌, pure}
use Rattle.tree_numbers.specs.Numbered.{of_block, of_expr}

-- Where a function answers Ok, its value, seen by a view, and the numbers that come next are those of the part.
abbrev pub Gives : {A B : Type 0} → (A → B) → Counting B → Numbers → Result A NumberError → Numbers → Type 0
Gives view count old r new = IfOk r (λ x. count old ≡ (view x, new))

-- what an expression with a number is
abbrev pub at_number : ℕ → Span → Counting ExprKind → Counting Expr
at_number id span kind = do
  a ← kind
  pure (the_expr id span a)

-- a condition with its block, and one with its value
abbrev pub of_arm : Expr × Block → Counting (Expr × Block)
of_arm arm = do
  a ← of_expr arm.0
  b ← of_block arm.1
  pure (a, b)

abbrev pub of_choice : Expr × Expr → Counting (Expr × Expr)
of_choice choice = do
  a ← of_expr choice.0
  b ← of_expr choice.1
  pure (a, b)
