use Rattle.type_fields.proofs.ReadingFacts.{nil_by_node}
use Rattle.type_fields.proofs.reading.has_nil.Goals as goal

pub returns : goal.returns
returns g c = nil_by_node (g.N.Nodes.arenas c.args.nodes.now) (g.met.N.Nodes.sound c.args.nodes.now) c.args.a c.node-node.result.now c.node-node.ensures
