use Rattle.std.proofs.Common.{length}
use Rattle.luau_tree.specs.View.{view_gen}
use Rattle.tree_numbers.specs.Numbered.{of_gen}
use Rattle.tree_numbers.proofs.Turns.{Left}
use Rattle.tree_numbers.proofs.pass.Pass.gens.Given as goal

-- what is left gives the whole
abbrev pub invariant-loop-generic : goal.invariant-loop-generic
invariant-loop-generic g l = Left view_gen of_gen l.fn.gens l.fn.numbers l.done l.rest l.numbers

abbrev pub decreases-loop-generic : goal.decreases-loop-generic
decreases-loop-generic g l = length l.rest
