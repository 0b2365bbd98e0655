use Rattle.other_ends.proofs.ForkModules.{unexpected_whatever_follows, ambiguous_whatever_follows}
use Rattle.other_ends.proofs.laws.what_is_refused_is_so_whatever_follows.Goals as goal

pub returns-clause-unexpected : goal.returns-clause-unexpected
returns-clause-unexpected c = unexpected_whatever_follows

pub returns-clause-ambiguous : goal.returns-clause-ambiguous
returns-clause-ambiguous c = ambiguous_whatever_follows
