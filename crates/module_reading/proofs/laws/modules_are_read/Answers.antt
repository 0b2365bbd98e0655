use Rattle.module_reading.proofs.Declared.{is_read}
use Rattle.module_reading.proofs.laws.modules_are_read.Goals as goal

pub returns : goal.returns
returns c = is_read
