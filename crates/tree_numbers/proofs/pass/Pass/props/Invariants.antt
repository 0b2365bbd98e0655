use Rattle.std.proofs.Common.{length}
use Rattle.luau_tree.specs.View.{view_prop}
use Rattle.tree_numbers.specs.Numbered.{of_prop}
use Rattle.tree_numbers.proofs.Turns.{Left}
use Rattle.tree_numbers.proofs.pass.Pass.props.Given as goal

-- what is left gives the whole
abbrev pub invariant-loop-prop : goal.invariant-loop-prop
invariant-loop-prop g l = Left view_prop of_prop l.fn.props l.fn.numbers l.done l.rest l.numbers

abbrev pub decreases-loop-prop : goal.decreases-loop-prop
decreases-loop-prop g l = length l.rest
