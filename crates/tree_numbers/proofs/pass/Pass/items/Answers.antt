use Rattle.std.proofs.Common.{rules}
use Rattle.tree_numbers.proofs.Turns.{begins, turns, stops}
use Rattle.tree_numbers.proofs.Listed.{items_done}
use Rattle.tree_numbers.proofs.pass.Pass.items.Goals as goal

pub loop-item-init : goal.loop-item-init
loop-item-init g c = begins (search rules) (search rules)

pub loop-item-preserved : goal.loop-item-preserved
loop-item-preserved g c = turns c.loop-item.invariant c.in-Some.ensures c.in_ok-push.ensures.ok c.in_ok-item.ensures

pub returns : goal.returns
returns g c = items_done c.args.items c.loop-item.done c.args.numbers.now c.loop-item.numbers (stops c.loop-item.invariant (search rules))
