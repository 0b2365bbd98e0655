use Rattle.std.proofs.Common.{length}
use Rattle.luau_tree.specs.View.{view_choice}
use Rattle.tree_numbers.specs.Outcomes.{of_choice}
use Rattle.tree_numbers.proofs.Turns.{Left}
use Rattle.tree_numbers.proofs.pass.Pass.choices.Given as goal

-- what is left gives the whole
abbrev pub invariant-loop-choice : goal.invariant-loop-choice
invariant-loop-choice g l = Left view_choice of_choice l.fn.choices l.fn.numbers l.done l.rest l.numbers

abbrev pub decreases-loop-choice : goal.decreases-loop-choice
decreases-loop-choice g l = length l.rest
