use Rattle.std.proofs.Common.{length}
use Rattle.luau_tree.specs.View.{view_expr}
use Rattle.tree_numbers.specs.Numbered.{of_expr}
use Rattle.tree_numbers.proofs.Turns.{Left}
use Rattle.tree_numbers.proofs.pass.Pass.exprs.Given as goal

-- what is left gives the whole
abbrev pub invariant-loop-e : goal.invariant-loop-e
invariant-loop-e g l = Left view_expr of_expr l.fn.exprs l.fn.numbers l.done l.rest l.numbers

abbrev pub decreases-loop-e : goal.decreases-loop-e
decreases-loop-e g l = length l.rest
