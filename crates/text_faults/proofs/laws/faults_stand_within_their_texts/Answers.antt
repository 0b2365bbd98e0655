use Rattle.text_faults.proofs.Within.{tokens_within, unexpected_within, ambiguous_within, nesting_within, end_within}
use Rattle.text_faults.proofs.laws.faults_stand_within_their_texts.Goals as goal

pub returns-clause-tokens : goal.returns-clause-tokens
returns-clause-tokens c = tokens_within

pub returns-clause-unexpected : goal.returns-clause-unexpected
returns-clause-unexpected c = unexpected_within

pub returns-clause-ambiguous : goal.returns-clause-ambiguous
returns-clause-ambiguous c = ambiguous_within

pub returns-clause-nesting : goal.returns-clause-nesting
returns-clause-nesting c = nesting_within

pub returns-clause-end : goal.returns-clause-end
returns-clause-end c = end_within
