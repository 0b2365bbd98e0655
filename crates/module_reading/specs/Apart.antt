-- What stands apart in a tree that comes of a text.
use Rattle.std.specs.Prelude.{◌≡◌, true, false, map}
use Rattle.std.specs.List.{AllByRecursion}
use Rattle.luau_tree.specs.Tree.{Block, Expr, the_expr, NameExpr}
use Rattle.luau_tree.specs.Nodes.{exprs_in, bodies_in, binds_in, expr_number, body_number}
use Rattle.luau_scope.specs.Captured.{bind_start}
use Rattle.luau_run.specs.ReadFolder.{are_distinct, is_among}

-- no dot stands in the name that an expression is
abbrev pub HasNoDot : Expr → Type 0
HasNoDot (the_expr id span (NameExpr name)) = is_among 46 name ≡ false
HasNoDot _ = Unit {0}

-- the numbers of a module's expressions are distinct, and so are those of its bodies and the offsets at which it declares
-- names; and names have no dot
pub record IsApart (block : Block) : Type 0 where
  pub exprs : are_distinct (map expr_number (exprs_in block)) ≡ true
  pub bodies : are_distinct (map body_number (bodies_in block)) ≡ true
  pub binds : are_distinct (map bind_start (binds_in block)) ≡ true
  pub names : AllByRecursion HasNoDot (exprs_in block)
