use Rattle.luau_run.proofs.ExampleFacts.{wrong_is_certain, right_is_not_certain}
use Rattle.luau_run.proofs.runs.call_of_abs.reports_at_the_argument.Goals as goal

pub returns-clause-wrong : goal.returns-clause-wrong
returns-clause-wrong c = wrong_is_certain

pub returns-clause-right : goal.returns-clause-right
returns-clause-right c = right_is_not_certain
