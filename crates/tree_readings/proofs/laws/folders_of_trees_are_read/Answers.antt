use Rattle.tree_readings.proofs.Declared.{folder_is_read}
use Rattle.tree_readings.proofs.laws.folders_of_trees_are_read.Goals as goal

pub returns : goal.returns
returns c = folder_is_read
