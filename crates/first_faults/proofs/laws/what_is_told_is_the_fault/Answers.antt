use Rattle.first_faults.proofs.TheFault.{unexpected_fault, end_fault, ambiguous_fault, deep_fault}
use Rattle.first_faults.proofs.laws.what_is_told_is_the_fault.Goals as goal

pub returns-clause-unexpected : goal.returns-clause-unexpected
returns-clause-unexpected c = λ text ts at o h. unexpected_fault text ts o at h

pub returns-clause-unexpected_end : goal.returns-clause-unexpected_end
returns-clause-unexpected_end c = λ text ts at o h. end_fault text ts o at h

pub returns-clause-ambiguous : goal.returns-clause-ambiguous
returns-clause-ambiguous c = λ text ts at o h. ambiguous_fault text ts o at h

pub returns-clause-too_deep : goal.returns-clause-too_deep
returns-clause-too_deep c = λ text ts at o h. deep_fault text ts o at h
