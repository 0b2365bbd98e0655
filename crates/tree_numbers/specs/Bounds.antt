-- The bounds of a loop over numbers, with their numbers.
use Rattle.luau_tree.specs.Tree.{Expr, MaybeExpr}
use Rattle.tree_numbers.specs.Counting.{Counting, ◌>>=◌, pure}
use Rattle.tree_numbers.specs.Numbered.{of_expr, of_maybe_expr}

abbrev pub of_bounds : Expr → Expr → MaybeExpr → Counting (Expr × Expr × MaybeExpr)
of_bounds from to step = do
  a ← of_expr from
  b ← of_expr to
  c ← of_maybe_expr step
  pure (a, b, c)
