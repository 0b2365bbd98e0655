use Rattle.tree_readings.proofs.Apart.{apart}
use Rattle.tree_readings.proofs.laws.trees_of_texts_stand_apart.Goals as goal

pub returns : goal.returns
returns c = apart
