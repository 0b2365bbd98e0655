use Rattle.subtype_memory.proofs.PairFacts.{none_right}
use Rattle.subtype_memory.proofs.memory.Remembered.new.Goals as goal

pub returns : goal.returns
returns c store = none_right store c.new.result c.new.ensures.empty
