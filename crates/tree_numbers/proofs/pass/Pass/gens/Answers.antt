use Rattle.std.proofs.Common.{rules}
use Rattle.tree_numbers.proofs.Turns.{begins, turns, stops}
use Rattle.tree_numbers.proofs.Listed.{gens_done}
use Rattle.tree_numbers.proofs.pass.Pass.gens.Goals as goal

pub loop-generic-init : goal.loop-generic-init
loop-generic-init g c = begins (search rules) (search rules)

pub loop-generic-preserved : goal.loop-generic-preserved
loop-generic-preserved g c = turns c.loop-generic.invariant c.in-Some.ensures c.in_ok-push.ensures.ok c.in_ok-generic.ensures

pub returns : goal.returns
returns g c = gens_done c.args.gens c.loop-generic.done c.args.numbers.now c.loop-generic.numbers (stops c.loop-generic.invariant (search rules))
