use Rattle.module_graph.proofs.Unique.{fate-unique}
use Rattle.module_graph.proofs.laws.fates_are_unique.Goals as goal

pub returns : goal.returns
returns c = fate-unique
