use Rattle.module_graph.proofs.Unique.{skipped-reaches}
use Rattle.module_graph.proofs.laws.skipped_modules_reach_refused_ones.Goals as goal

pub returns : goal.returns
returns c = skipped-reaches
