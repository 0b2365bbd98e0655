use Rattle.std.proofs.Common.{◌≡◌, ◌++◌, ◌+◌, length}
use Rattle.guards.specs.Lists.{side_by_side}
use Rattle.guards.proofs.listing.side_by_side.Given as goal

-- what is there and what is left are all
abbrev pub invariant-loop-step : goal.invariant-loop-step
invariant-loop-step l = l.all.items ++ side_by_side l.ahead l.others ≡ side_by_side l.fn.left l.fn.right

abbrev pub decreases-loop-step : goal.decreases-loop-step
decreases-loop-step l = length l.ahead + length l.others
