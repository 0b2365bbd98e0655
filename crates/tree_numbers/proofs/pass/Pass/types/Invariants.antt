use Rattle.std.proofs.Common.{length}
use Rattle.luau_tree.specs.View.{view_type}
use Rattle.tree_numbers.specs.Numbered.{of_type}
use Rattle.tree_numbers.proofs.Turns.{Left}
use Rattle.tree_numbers.proofs.pass.Pass.types.Given as goal

-- what is left gives the whole
abbrev pub invariant-loop-typ : goal.invariant-loop-typ
invariant-loop-typ g l = Left view_type of_type l.fn.types l.fn.numbers l.done l.rest l.numbers

abbrev pub decreases-loop-typ : goal.decreases-loop-typ
decreases-loop-typ g l = length l.rest
