use Rattle.std.proofs.Common.{length}
use Rattle.luau_tree.specs.View.{view_stat}
use Rattle.tree_numbers.specs.Numbered.{of_stat}
use Rattle.tree_numbers.proofs.Turns.{Left}
use Rattle.tree_numbers.proofs.pass.Pass.stats.Given as goal

-- what is left gives the whole
abbrev pub invariant-loop-stat : goal.invariant-loop-stat
invariant-loop-stat g l = Left view_stat of_stat l.fn.stats l.fn.numbers l.done l.rest l.numbers

abbrev pub decreases-loop-stat : goal.decreases-loop-stat
decreases-loop-stat g l = length l.rest
