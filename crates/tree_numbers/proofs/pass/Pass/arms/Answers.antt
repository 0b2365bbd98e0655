use Rattle.std.proofs.Common.{rules}
use Rattle.tree_numbers.proofs.Turns.{begins, turns, stops}
use Rattle.tree_numbers.proofs.Listed.{arms_done}
use Rattle.tree_numbers.proofs.pass.Pass.arms.Goals as goal

pub loop-arm-init : goal.loop-arm-init
loop-arm-init g c = begins (search rules) (search rules)

pub loop-arm-preserved : goal.loop-arm-preserved
loop-arm-preserved g c = turns c.loop-arm.invariant c.in-Some.ensures c.in_ok-push.ensures.ok c.in_ok-arm.ensures

pub returns : goal.returns
returns g c = arms_done c.args.arms c.loop-arm.done c.args.numbers.now c.loop-arm.numbers (stops c.loop-arm.invariant (search rules))
