use Rattle.type_arena.proofs.MeaningLemmas.{term_of-node}
use Rattle.type_arena.proofs.laws.meaning_is_by_nodes.Goals as goal

pub returns : goal.returns
returns c = term_of-node
