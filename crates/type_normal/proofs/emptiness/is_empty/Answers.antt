use Rattle.std.proofs.Common.{◌∙◌}
use Rattle.type_normal.proofs.NodeFacts.{empty_by_node}
use Rattle.type_normal.proofs.emptiness.is_empty.Goals as goal

pub returns : goal.returns
returns g c =
    c.is_bare.ensures ∙ empty_by_node (g.N.Nodes.arenas c.args.nodes.now) (g.met.N.Nodes.sound c.args.nodes.now) c.args.a c.node.result.now c.node.ensures
