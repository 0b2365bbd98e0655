use Rattle.context_types.proofs.ListFacts.{spread_more}
use Rattle.context_types.proofs.lists.spread.Goals as goal

pub loop-set-preserved : goal.loop-set-preserved
loop-set-preserved c =
    spread_more c.args.context.now c.in_ok-one.one c.args.sets.now c.loop-set.made.items c.push.new.self.items c.loop-set._set-index c.loop-set-test.true c.loop-set.invariant c.in_ok-one.ensures c.in_ok-push.ensures.items
