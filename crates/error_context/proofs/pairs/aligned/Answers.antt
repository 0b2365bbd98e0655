use Rattle.std.proofs.Common.{List, sym, subst}
use Rattle.error_context.specs.declared.pairs.Pair.{Pair}
use Rattle.error_context.proofs.PairFacts.{Running, running_starts, running_on}
use Rattle.error_context.proofs.pairs.aligned.Goals as goal

pub loop-pair-init : goal.loop-pair-init
loop-pair-init c = record {
  running = subst (λ (ps : List Pair). Running c.args.absent c.args.a.now c.args.b.now c.args.a.now c.args.b.now ps) (sym c.new-pairs.ensures.items)
      (running_starts c.args.absent c.args.a.now c.args.b.now c.requires.left c.requires.right);
}

pub loop-pair-preserved : goal.loop-pair-preserved
loop-pair-preserved c = record {
  running =
      running_on c.args.absent c.args.a.now c.args.b.now c.loop-pair.lefts.now c.loop-pair.rights.now c.past-lefts.result.now c.past-rights.result.now
      c.loop-pair.pairs.items c.push.new.self.items c.in-Some.pair c.loop-pair.invariant.running c.in-Some.ensures
      c.past-lefts.ensures c.past-rights.ensures c.in_ok-push.ensures.items;
}
