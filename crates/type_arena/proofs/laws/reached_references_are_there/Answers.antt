use Rattle.type_arena.proofs.MeaningLemmas.{Reaches-there}
use Rattle.type_arena.proofs.laws.reached_references_are_there.Goals as goal

pub returns : goal.returns
returns c store sound at far reached there = Reaches-there store sound reached there
