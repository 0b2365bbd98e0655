use Rattle.std.proofs.Common.{rules}
use Rattle.tree_numbers.proofs.Turns.{begins, turns, stops}
use Rattle.tree_numbers.proofs.Listed.{exprs_done}
use Rattle.tree_numbers.proofs.pass.Pass.exprs.Goals as goal

pub loop-e-init : goal.loop-e-init
loop-e-init g c = begins (search rules) (search rules)

pub loop-e-preserved : goal.loop-e-preserved
loop-e-preserved g c = turns c.loop-e.invariant c.in-Some.ensures c.in_ok-push.ensures.ok c.in_ok-e.ensures

pub returns : goal.returns
returns g c = exprs_done c.args.exprs c.loop-e.done c.args.numbers.now c.loop-e.numbers (stops c.loop-e.invariant (search rules))
