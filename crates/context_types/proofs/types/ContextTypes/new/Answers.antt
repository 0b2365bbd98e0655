use Rattle.type_arena.specs.Arena.{store_of}
use Rattle.context_types.proofs.types.ContextTypes.new.Goals as goal

pub invariant_of-result : goal.invariant_of-result
invariant_of-result c = record { confined = c.requires; right = c.new.ensures (store_of c.args.arena) }
