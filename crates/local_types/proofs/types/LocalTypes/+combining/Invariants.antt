use Rattle.std.proofs.Common.{◌+◌, ◌*◌}
use Rattle.local_types.proofs.BothFacts.{depth_of_parts}
use Rattle.local_types.proofs.types.LocalTypes.+combining.Given as goal

abbrev pub decreases-combined : goal.decreases-combined
decreases-combined l = 2 * (l.a.at + l.b.at)

abbrev pub decreases-combined_parts : goal.decreases-combined_parts
decreases-combined_parts l = 2 * depth_of_parts l.a l.b + 1
