use Rattle.level_workers.proofs.RuleLemmas.{word_bound}
use Rattle.level_workers.proofs.laws.the_word_stays_low.Goals as goal

pub returns : goal.returns
returns c = word_bound
