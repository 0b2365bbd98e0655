use Rattle.type_arena.specs.Arena.{store_of}
use Rattle.type_tests.proofs.subtypes.is_below_the_last.Goals as goal

pub below-requires-clause-right : goal.below-requires-clause-right
below-requires-clause-right c = c.new-remembered.ensures (store_of c.args.arena.now)
