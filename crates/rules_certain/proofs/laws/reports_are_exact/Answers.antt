use Rattle.rules_certain.proofs.ReportLaws.{exact}
use Rattle.rules_certain.proofs.laws.reports_are_exact.Goals as goal

pub returns : goal.returns
returns c = exact
