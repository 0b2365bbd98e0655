use Rattle.std.proofs.Common.{rules}
use Rattle.tree_numbers.proofs.Turns.{begins, turns, stops}
use Rattle.tree_numbers.proofs.Listed.{binds_done}
use Rattle.tree_numbers.proofs.pass.Pass.binds.Goals as goal

pub loop-bind-init : goal.loop-bind-init
loop-bind-init g c = begins (search rules) (search rules)

pub loop-bind-preserved : goal.loop-bind-preserved
loop-bind-preserved g c = turns c.loop-bind.invariant c.in-Some.ensures c.in_ok-push.ensures.ok c.in_ok-bind.ensures

pub returns : goal.returns
returns g c = binds_done c.args.binds c.loop-bind.done c.args.numbers.now c.loop-bind.numbers (stops c.loop-bind.invariant (search rules))
