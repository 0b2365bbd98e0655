use Rattle.module_graph.specs.Requires.{nodes_of}
use Rattle.module_graph.proofs.Graphs.{IsGraph-nodes}
use Rattle.module_graph.proofs.Levelling.{checked-requires}
use Rattle.module_graph.proofs.laws.checked_modules_require_checked_ones.Goals as goal

pub returns : goal.returns
returns c = λ files plan is file level next needs e requires. checked-requires (nodes_of files) (IsGraph-nodes files) plan.fates is.fates file level needs e next requires
