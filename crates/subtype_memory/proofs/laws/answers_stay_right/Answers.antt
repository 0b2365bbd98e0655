use Rattle.subtype_memory.proofs.PairFacts.{right_later}
use Rattle.subtype_memory.proofs.laws.answers_stay_right.Goals as goal

pub returns : goal.returns
returns c old new known sound later keeps right = right_later old new known sound later keeps right
