use Rattle.fault_places.proofs.ClosingFronts.{before_a_token, before_the_end, shorter}
use Rattle.fault_places.proofs.laws.what_stands_before_an_unexpected_token_begins_a_module.Goals as goal

pub returns-clause-before_a_token : goal.returns-clause-before_a_token
returns-clause-before_a_token c = before_a_token

pub returns-clause-before_the_end : goal.returns-clause-before_the_end
returns-clause-before_the_end c = before_the_end

pub returns-clause-shorter : goal.returns-clause-shorter
returns-clause-shorter c = shorter
