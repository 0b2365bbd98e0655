-- Trees whose nodes stand in the order of the text.
use Rattle.std.specs.Prelude.{ℕ, ◌^◌, ◌<◌, length, map}
use Rattle.luau_tree.specs.Tree.{Block}
use Rattle.luau_tree.specs.Nodes.{exprs_in, binds_in, expr_number}
use Rattle.luau_scope.specs.Captured.{bind_start}
use Rattle.luau_scope.specs.Laws.{AscendFrom}

-- a module's expressions are numbered in the order of the text, its declared names begin one behind the other, and there are
-- fewer of them than 2^32
pub record StandsInOrder (block : Block) : Type 0 where
  pub exprs : AscendFrom 0 (map expr_number (exprs_in block))
  pub binds : AscendFrom 0 (map bind_start (binds_in block))
  pub few : length (binds_in block) < 2 ^ 32
