use Rattle.first_faults.proofs.Told.{unexpected, ambiguous, too_deep, at_the_end}
use Rattle.first_faults.proofs.laws.what_is_told_stands_at_its_least_place.Goals as goal

pub returns-clause-unexpected : goal.returns-clause-unexpected
returns-clause-unexpected c = λ text ts at o h. unexpected text ts o at h

pub returns-clause-ambiguous : goal.returns-clause-ambiguous
returns-clause-ambiguous c = λ text ts at o h. ambiguous text ts o at h

pub returns-clause-too_deep : goal.returns-clause-too_deep
returns-clause-too_deep c = λ text ts at o h. too_deep text ts o at h

pub returns-clause-at_the_end : goal.returns-clause-at_the_end
returns-clause-at_the_end c = λ text ts at o h. at_the_end text ts o at h
