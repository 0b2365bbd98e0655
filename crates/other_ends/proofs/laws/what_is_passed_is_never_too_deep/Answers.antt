use Rattle.other_ends.proofs.ForkModules.{never_too_deep, never_too_deep_at_the_end}
use Rattle.other_ends.proofs.laws.what_is_passed_is_never_too_deep.Goals as goal

pub returns-clause-before_a_token : goal.returns-clause-before_a_token
returns-clause-before_a_token c = λ set h deep e t u front behind other. never_too_deep set h deep e t front u behind other

pub returns-clause-before_the_end : goal.returns-clause-before_the_end
returns-clause-before_the_end c = λ set h deep at e t front other. never_too_deep_at_the_end set h deep e t front at other
