use Rattle.error_context.proofs.PairFacts.{alone_on}
use Rattle.error_context.proofs.pairs.alone.Goals as goal

pub loop-entry-preserved : goal.loop-entry-preserved
loop-entry-preserved c = record {
  made = alone_on c.args.entries.now c.loop-entry.entry-index _ c.loop-entry.pairs.items c.push.new.self.items c.loop-entry-test.true c.loop-entry.invariant.made c.in_ok-push.ensures.items;
}
