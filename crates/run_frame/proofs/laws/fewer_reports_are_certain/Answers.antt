use Rattle.run_frame.proofs.Counts.{fewer_certain}
use Rattle.run_frame.proofs.laws.fewer_reports_are_certain.Goals as goal

pub returns : goal.returns
returns c = fewer_certain
