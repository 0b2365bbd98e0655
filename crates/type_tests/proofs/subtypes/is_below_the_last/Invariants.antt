use Rattle.type_arena.specs.Arena.{store_of}
use Rattle.subtype_memory.specs.Memory.{IsRight}
use Rattle.type_tests.proofs.subtypes.is_below_the_last.Given as goal

abbrev pub invariant-loop-upper : goal.invariant-loop-upper
invariant-loop-upper l = IsRight (store_of l.arena) l.remembered
