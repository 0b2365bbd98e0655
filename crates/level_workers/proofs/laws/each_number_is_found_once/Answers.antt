use Rattle.std.proofs.Common.{subst}
use Rattle.level_workers.specs.Numbers.{EachBelow}
use Rattle.level_workers.specs.Machine.{after, all_found}
use Rattle.level_workers.proofs.MachineLaws.{next-after, each_found}
use Rattle.level_workers.proofs.laws.each_number_is_found_once.Goals as goal

pub returns-clause-next : goal.returns-clause-next
returns-clause-next c draws = next-after draws

pub returns-clause-once : goal.returns-clause-once
returns-clause-once c n draws seats = subst (λ k. EachBelow k (all_found n (after draws))) (next-after draws) (each_found n draws seats)
