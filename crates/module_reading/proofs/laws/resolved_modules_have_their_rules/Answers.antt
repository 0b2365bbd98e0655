use Rattle.module_reading.proofs.Small.{scoped_same}
use Rattle.module_reading.proofs.laws.resolved_modules_have_their_rules.Goals as goal

pub returns : goal.returns
returns c = scoped_same
