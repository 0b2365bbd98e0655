use Rattle.std.proofs.Common.{take}
use Rattle.std.specs.Prelude.{reverse}
use Rattle.local_types.proofs.JoinFacts.{JoinedSo}
use Rattle.local_types.proofs.types.LocalTypes.joined.Given as goal

-- the ends so far are joined
abbrev pub invariant-loop-end : goal.invariant-loop-end
invariant-loop-end l = JoinedSo l.fn.self l.self l.map (reverse (take l.end-index l.ends)) l.dead
