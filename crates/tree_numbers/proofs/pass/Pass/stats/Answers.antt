use Rattle.std.proofs.Common.{rules}
use Rattle.tree_numbers.proofs.Turns.{begins, turns, stops}
use Rattle.tree_numbers.proofs.Listed.{stats_done}
use Rattle.tree_numbers.proofs.pass.Pass.stats.Goals as goal

pub loop-stat-init : goal.loop-stat-init
loop-stat-init g c = begins (search rules) (search rules)

pub loop-stat-preserved : goal.loop-stat-preserved
loop-stat-preserved g c = turns c.loop-stat.invariant c.in-Some.ensures c.in_ok-push.ensures.ok c.in_ok-stat.ensures

pub returns : goal.returns
returns g c = stats_done c.args.stats c.loop-stat.done c.args.numbers.now c.loop-stat.numbers (stops c.loop-stat.invariant (search rules))
