use Rattle.std.proofs.Common.{◌≡◌}
use Rattle.luau_tree.specs.View.{view_expr}
use Rattle.tree_numbers.specs.Counting.{go_on}
use Rattle.tree_numbers.specs.Numbered.{of_expr}
use Rattle.tree_numbers.specs.Tails.{closed}
use Rattle.tree_numbers.proofs.pass.Pass.inwards.Given as goal

-- what is still to be done gives the whole
abbrev pub invariant-loop : goal.invariant-loop
invariant-loop g l = of_expr (view_expr l.fn.e) l.fn.numbers ≡ go_on (closed l.outer) (of_expr (view_expr l.inner) l.numbers)
