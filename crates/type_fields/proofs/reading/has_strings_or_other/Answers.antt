use Rattle.type_fields.proofs.ReadingFacts.{strings_by_node}
use Rattle.type_fields.proofs.reading.has_strings_or_other.Goals as goal

pub returns : goal.returns
returns g c = strings_by_node (g.N.Nodes.arenas c.args.nodes.now) (g.met.N.Nodes.sound c.args.nodes.now) c.args.a c.node-node.result.now c.has_none.result c.node-node.ensures c.has_none.ensures
