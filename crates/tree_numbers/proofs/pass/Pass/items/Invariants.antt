use Rattle.std.proofs.Common.{length}
use Rattle.luau_tree.specs.View.{view_item}
use Rattle.tree_numbers.specs.Numbered.{of_item}
use Rattle.tree_numbers.proofs.Turns.{Left}
use Rattle.tree_numbers.proofs.pass.Pass.items.Given as goal

-- what is left gives the whole
abbrev pub invariant-loop-item : goal.invariant-loop-item
invariant-loop-item g l = Left view_item of_item l.fn.items l.fn.numbers l.done l.rest l.numbers

abbrev pub decreases-loop-item : goal.decreases-loop-item
decreases-loop-item g l = length l.rest
