use Rattle.module_graph.specs.Requires.{nodes_of}
use Rattle.module_graph.proofs.Graphs.{IsGraph-nodes}
use Rattle.module_graph.proofs.Levelling.{checked-below}
use Rattle.module_graph.proofs.laws.levels_stand_on_levels.Goals as goal

pub returns : goal.returns
returns c = λ files plan is file level needs e. checked-below (nodes_of files) (IsGraph-nodes files) plan.fates is.fates file level needs e
