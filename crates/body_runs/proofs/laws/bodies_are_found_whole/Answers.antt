use Rattle.body_runs.proofs.FoundBodies.{found_whole}
use Rattle.body_runs.proofs.laws.bodies_are_found_whole.Goals as goal

pub returns : goal.returns
returns c = found_whole
