use Rattle.std.proofs.Common.{◌∙◌}
use Rattle.type_ops.proofs.NormalFacts.{unknown_by_node}
use Rattle.type_fields.proofs.reading.is_unknown.Goals as goal

pub returns : goal.returns
returns g c =
    c.is_whole.ensures ∙ unknown_by_node (g.N.Nodes.arenas c.args.nodes.now) (g.met.N.Nodes.sound c.args.nodes.now) c.args.a c.node.result.now c.node.ensures
