use Rattle.std.proofs.Common.{ap, ◌∙◌}
use Rattle.std.specs.Prelude.{option_map}
use Rattle.type_arena.specs.Term.{function_of}
use Rattle.type_fields.proofs.ReadingFacts.{function_by_node}
use Rattle.type_fields.proofs.reading.exactly_one_function.Goals as goal

pub returns : goal.returns
returns g c =
    ap (option_map function_of) c.only_function.ensures
    ∙ function_by_node (g.N.Nodes.arenas c.args.nodes.now) (g.met.N.Nodes.sound c.args.nodes.now) c.args.a c.node.result.now c.node.ensures
