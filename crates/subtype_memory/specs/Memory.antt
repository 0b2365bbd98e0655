-- Memories of which types are below others.
use Rattle.type_arena.specs.Store.{Store}
use Rattle.subtype_memory.specs.Remembering.{AreRight}
use Rattle.subtype_memory.specs.declared.memory.Remembered.{Remembered}

-- each answer in a memory is right
abbrev pub IsRight : Store → Remembered → Type 0
IsRight store known = AreRight store known.answers
