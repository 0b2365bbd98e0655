use Rattle.reports_certain.proofs.Sound.{all_certain}
use Rattle.reports_certain.proofs.laws.reports_are_certain.Goals as goal

pub returns : goal.returns
returns c = all_certain
