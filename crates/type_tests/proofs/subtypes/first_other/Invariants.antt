use Rattle.type_arena.specs.Arena.{store_of}
use Rattle.subtype_memory.specs.Memory.{IsRight}
use Rattle.type_tests.proofs.subtypes.first_other.Given as goal

abbrev pub invariant-loop-case : goal.invariant-loop-case
invariant-loop-case l = IsRight (store_of l.arena) l.remembered
