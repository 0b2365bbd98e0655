use Rattle.std.proofs.Common.{◌∙◌}
use Rattle.type_arena.specs.Arena.{store_of}
use Rattle.error_context.proofs.StepFacts.{plain_by_node}
use Rattle.error_context.proofs.plain.is_plain.Goals as goal

pub returns : goal.returns
returns c = c.names_nothing.ensures ∙ plain_by_node (store_of c.args.arena.now) c.args.arena.now.sound c.args.a c.node.result.now c.node.ensures
