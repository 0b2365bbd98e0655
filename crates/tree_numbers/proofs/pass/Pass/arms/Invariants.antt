use Rattle.std.proofs.Common.{length}
use Rattle.luau_tree.specs.View.{view_arm}
use Rattle.tree_numbers.specs.Outcomes.{of_arm}
use Rattle.tree_numbers.proofs.Turns.{Left}
use Rattle.tree_numbers.proofs.pass.Pass.arms.Given as goal

-- what is left gives the whole
abbrev pub invariant-loop-arm : goal.invariant-loop-arm
invariant-loop-arm g l = Left view_arm of_arm l.fn.arms l.fn.numbers l.done l.rest l.numbers

abbrev pub decreases-loop-arm : goal.decreases-loop-arm
decreases-loop-arm g l = length l.rest
