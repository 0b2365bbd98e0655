use Rattle.guards.proofs.MeansFacts.{turned_means, turned_own}
use Rattle.guards.proofs.combining.not_guard.Goals as goal

pub returns-clause-says : goal.returns-clause-says
returns-clause-says c arena rules id span e is = turned_means arena c.args.guard c.turned.result _ _ is c.turned.ensures.when_true c.turned.ensures.when_false

pub returns-clause-own : goal.returns-clause-own
returns-clause-own c arena own = turned_own arena c.args.guard c.turned.result own c.turned.ensures.when_true c.turned.ensures.when_false
