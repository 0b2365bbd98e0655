use Rattle.type_arena.specs.Arena.{store_of}
use Rattle.type_tests.proofs.subtypes.first_other.Goals as goal

pub loop-case-init : goal.loop-case-init
loop-case-init c = c.new-remembered.ensures (store_of c.args.arena.now)
