use Rattle.std.proofs.Common.{rules}
use Rattle.tree_numbers.proofs.Turns.{begins, turns, stops}
use Rattle.tree_numbers.proofs.Listed.{choices_done}
use Rattle.tree_numbers.proofs.pass.Pass.choices.Goals as goal

pub loop-choice-init : goal.loop-choice-init
loop-choice-init g c = begins (search rules) (search rules)

pub loop-choice-preserved : goal.loop-choice-preserved
loop-choice-preserved g c = turns c.loop-choice.invariant c.in-Some.ensures c.in_ok-push.ensures.ok c.in_ok-choice.ensures

pub returns : goal.returns
returns g c = choices_done c.args.choices c.loop-choice.done c.args.numbers.now c.loop-choice.numbers (stops c.loop-choice.invariant (search rules))
