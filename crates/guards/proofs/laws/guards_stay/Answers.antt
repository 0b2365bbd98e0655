use Rattle.guards.proofs.MeansFacts.{guard_stays, guard_stays_own}
use Rattle.guards.proofs.laws.guards_stay.Goals as goal

pub returns-clause-says : goal.returns-clause-says
returns-clause-says c = guard_stays

pub returns-clause-own : goal.returns-clause-own
returns-clause-own c = guard_stays_own
