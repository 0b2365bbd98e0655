use Rattle.tree_readings.proofs.Declared.{is_read}
use Rattle.tree_readings.proofs.laws.modules_are_read.Goals as goal

pub returns : goal.returns
returns c = is_read
