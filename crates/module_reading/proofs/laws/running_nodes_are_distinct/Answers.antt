use Rattle.module_reading.proofs.Lists.{fewer_distinct}
use Rattle.module_reading.proofs.Nodes as nodes
use Rattle.module_reading.proofs.laws.running_nodes_are_distinct.Goals as goal

pub returns-clause-expressions : goal.returns-clause-expressions
returns-clause-expressions c = λ block apart. fewer_distinct (nodes.exprs_within (nodes.block block)) apart.exprs

pub returns-clause-bodies : goal.returns-clause-bodies
returns-clause-bodies c = λ block apart. fewer_distinct (nodes.bodies_within (nodes.block block)) apart.bodies
