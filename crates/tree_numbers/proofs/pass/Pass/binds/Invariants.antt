use Rattle.std.proofs.Common.{length}
use Rattle.luau_tree.specs.View.{view_bind}
use Rattle.tree_numbers.specs.Numbered.{of_bind}
use Rattle.tree_numbers.proofs.Turns.{Left}
use Rattle.tree_numbers.proofs.pass.Pass.binds.Given as goal

-- what is left gives the whole
abbrev pub invariant-loop-bind : goal.invariant-loop-bind
invariant-loop-bind g l = Left view_bind of_bind l.fn.binds l.fn.numbers l.done l.rest l.numbers

abbrev pub decreases-loop-bind : goal.decreases-loop-bind
decreases-loop-bind g l = length l.rest
