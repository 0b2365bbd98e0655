use Rattle.module_reading.proofs.Small.{reads}
use Rattle.module_reading.proofs.laws.rules_read_the_names.Goals as goal

pub returns : goal.returns
returns c = reads
