use Rattle.type_arena.proofs.LongerLemmas.{IsSound-longer, means-longer}
use Rattle.type_arena.proofs.laws.frozen_arenas_stand_on_longer_shelves.Goals as goal

pub returns-clause-stands : goal.returns-clause-stands
returns-clause-stands c = IsSound-longer

pub returns-clause-means : goal.returns-clause-means
returns-clause-means c = means-longer
