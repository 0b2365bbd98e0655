use Rattle.std.proofs.Common.{rules}
use Rattle.tree_numbers.proofs.Turns.{begins, turns, stops}
use Rattle.tree_numbers.proofs.Listed.{props_done}
use Rattle.tree_numbers.proofs.pass.Pass.props.Goals as goal

pub loop-prop-init : goal.loop-prop-init
loop-prop-init g c = begins (search rules) (search rules)

pub loop-prop-preserved : goal.loop-prop-preserved
loop-prop-preserved g c = turns c.loop-prop.invariant c.in-Some.ensures c.in_ok-push.ensures.ok c.in_ok-prop.ensures

pub returns : goal.returns
returns g c = props_done c.args.props c.loop-prop.done c.args.numbers.now c.loop-prop.numbers (stops c.loop-prop.invariant (search rules))
