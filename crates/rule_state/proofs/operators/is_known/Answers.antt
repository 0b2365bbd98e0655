use Rattle.rule_state.proofs.OtherFacts.{known_by_node}
use Rattle.rule_state.proofs.operators.is_known.Goals as goal

pub returns : goal.returns
returns g c = known_by_node (g.N.Nodes.arenas c.args.nodes.now) (g.met.N.Nodes.sound c.args.nodes.now) c.args.a c.node-node.result.now c.node-node.ensures
