use Rattle.level_workers.proofs.MachineLaws.{draw_found}
use Rattle.level_workers.proofs.laws.a_draw_finds_its_place.Goals as goal

pub returns : goal.returns
returns c = draw_found
