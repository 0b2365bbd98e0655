-- What stands apart in a tree that comes of a text.
use Rattle.std.specs.Prelude.{◌≡◌, true, map}
use Rattle.luau_tree.specs.Tree.{Block}
use Rattle.luau_tree.specs.Nodes.{exprs_in, bodies_in, binds_in, expr_number, body_number}
use Rattle.luau_scope.specs.Captured.{bind_start}
use Rattle.luau_run.specs.ReadFolder.{are_distinct}

-- the numbers of a module's expressions are distinct, and so are those of its bodies and the offsets at which it declares
-- names
pub record StandsApart (block : Block) : Type 0 where
  pub exprs : are_distinct (map expr_number (exprs_in block)) ≡ true
  pub bodies : are_distinct (map body_number (bodies_in block)) ≡ true
  pub binds : are_distinct (map bind_start (binds_in block)) ≡ true
