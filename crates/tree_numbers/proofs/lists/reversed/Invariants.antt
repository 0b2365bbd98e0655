use Rattle.std.proofs.Common.{◌≡◌, ◌++◌, reverse, length}
use Rattle.tree_numbers.proofs.lists.reversed.Given as goal

-- what was taken off, last to first
abbrev pub invariant-loop-item : goal.invariant-loop-item
invariant-loop-item g l = l.back ++ reverse l.rest ≡ reverse l.fn.items

abbrev pub decreases-loop-item : goal.decreases-loop-item
decreases-loop-item g l = length l.rest
