-- Expressions that begin with one another, from the outside in.
use Rattle.std.specs.Prelude.{ℕ, List, [], ◌∷◌}
use Rattle.luau_tree.specs.declared.position.Span.{Span}
use Rattle.luau_tree.specs.Tree.{Expr, ExprKind}
use Rattle.luau_tree.specs.Tree as plain
use Rattle.luau_tree.specs.View.{view_expr, view_exprs, view_type}
use Rattle.tree_numbers.specs.declared.tails.Tail.{Tail}
use Rattle.tree_numbers.specs.declared.tails.Tail.TheVariants as behind
use Rattle.tree_numbers.specs.declared.tails.Outer.{Outer}
use Rattle.tree_numbers.specs.declared.tails.Opened.{Opened}
use Rattle.tree_numbers.specs.declared.tails.Opened.TheVariants as opened
use Rattle.tree_numbers.specs.Counting.{Counting, ◌>>=◌, pure}
use Rattle.tree_numbers.specs.Numbered.{of_expr, of_exprs, of_type}
use Rattle.tree_numbers.specs.Outcomes.{at_number}

-- what an expression is that begins with one that has its numbers
abbrev pub with_tail : Tail → Expr → Counting ExprKind
with_tail (behind.Index name) e = pure (plain.Index e name)
with_tail (behind.At key) e = do
  a ← of_expr (view_expr key)
  pure (plain.At e a)
with_tail (behind.Call args) e = do
  a ← of_exprs (view_exprs args)
  pure (plain.Call e a)
with_tail (behind.Method name name_span args) e = do
  a ← of_exprs (view_exprs args)
  pure (plain.Method e name name_span a)
with_tail (behind.Binary op right) e = do
  a ← of_expr (view_expr right)
  pure (plain.Binary op e a)
with_tail (behind.Assert typ) e = do
  a ← of_type (view_type typ)
  pure (plain.Assert e a)

-- the first of some expressions that begin with one another, where the last begins with one that has its numbers
abbrev pub closed : List Outer → Expr → Counting Expr
closed [] e = pure e
closed (x ∷ rest) e = do
  a ← closed rest e
  at_number x.id.0 x.span (with_tail x.tail a)

-- an expression with this number, from what stands behind its number
abbrev pub goes_on : ℕ → Span → Opened → Counting Expr
goes_on id span (opened.Done e) = pure (view_expr e)
goes_on id span (opened.Begun first tail) = do
  a ← of_expr (view_expr first)
  at_number id span (with_tail tail a)
