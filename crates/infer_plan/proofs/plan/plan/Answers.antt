use Rattle.infer_plan.proofs.Plans.{planned, weighed}
use Rattle.infer_plan.proofs.plan.plan.Goals as goal

pub loop-i-preserved : goal.loop-i-preserved
loop-i-preserved c = record {
  work = λ rules work. planned rules c.args.tasks.now.items c.loop-i.tasks.items c.push.new.self.items c.args.parts.now c.index-parts-i.result _ c.loop-i.i work
      c.in_ok-push.ensures.items c.index-parts-i.is c.loop-i-test.true c.loop-i.auto.i c.loop-i.invariant.work;
  light = weighed c.args.tasks.now.items c.loop-i.tasks.items c.push.new.self.items c.args.parts.now c.index-parts-i.result _ c.loop-i.i
      c.in_ok-push.ensures.items c.index-parts-i.is c.loop-i-test.true c.loop-i.auto.i c.loop-i.invariant.light;
}
