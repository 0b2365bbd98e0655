use Rattle.level_workers.proofs.MachineLaws.{all_drawn}
use Rattle.level_workers.proofs.laws.seats_past_the_limit_drew_all.Goals as goal

pub returns : goal.returns
returns c = all_drawn
