use Rattle.std.proofs.Common.{◌≡◌, length}
use Rattle.luau_tree.specs.View.{view_expr}
use Rattle.tree_numbers.specs.Tails.{closed}
use Rattle.tree_numbers.proofs.pass.Pass.outwards.Given as goal

-- what is still to be done gives the whole
abbrev pub invariant-loop-last : goal.invariant-loop-last
invariant-loop-last g l = closed l.fn.outer (view_expr l.fn.e) l.fn.numbers ≡ closed l.rest (view_expr l.done) l.numbers

abbrev pub decreases-loop-last : goal.decreases-loop-last
decreases-loop-last g l = length l.rest
