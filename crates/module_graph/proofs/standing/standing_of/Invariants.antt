use Rattle.module_graph.proofs.Standings.{AreBelow}
use Rattle.module_graph.proofs.standing.standing_of.Given as goal

abbrev pub invariant-loop-call : goal.invariant-loop-call
invariant-loop-call l = AreBelow l.nodes l.file l.call-items l.standings l.call-index l.level
