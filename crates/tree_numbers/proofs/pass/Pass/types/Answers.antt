use Rattle.std.proofs.Common.{rules}
use Rattle.tree_numbers.proofs.Turns.{begins, turns, stops}
use Rattle.tree_numbers.proofs.Listed.{types_done}
use Rattle.tree_numbers.proofs.pass.Pass.types.Goals as goal

pub loop-typ-init : goal.loop-typ-init
loop-typ-init g c = begins (search rules) (search rules)

pub loop-typ-preserved : goal.loop-typ-preserved
loop-typ-preserved g c = turns c.loop-typ.invariant c.in-Some.ensures c.in_ok-push.ensures.ok c.in_ok-typ.ensures

pub returns : goal.returns
returns g c = types_done c.args.types c.loop-typ.done c.args.numbers.now c.loop-typ.numbers (stops c.loop-typ.invariant (search rules))
