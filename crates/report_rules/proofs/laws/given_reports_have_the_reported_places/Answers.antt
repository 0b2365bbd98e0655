use Rattle.report_rules.proofs.PrintedFacts.{same_places}
use Rattle.report_rules.proofs.laws.given_reports_have_the_reported_places.Goals as goal

pub returns : goal.returns
returns c = λ module_at reports place. same_places module_at reports place
