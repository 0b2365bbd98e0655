use Rattle.std.proofs.Common.{◌≤◌, ◌<◌, ℕ, List, refl, arith}
use Rattle.report_plan.specs.declared.task.Task.{Task}
use Rattle.report_plan.specs.Run.{act, in_order}
use Rattle.report_plan.specs.Weights.{weight, weights}
use Rattle.report_plan.proofs.Plans.{put_one, puts_begin, puts_more}
use Rattle.report_plan.proofs.plan.plan.Goals as goal

pub loop-i-init : goal.loop-i-init
loop-i-init c = puts_begin (λ (ts : List Task). λ rules seen. in_order rules seen ts) weights (λ (t : Task). λ rules seen. act rules seen t) weight c.args.tasks.now.items c.args.parts.now (λ rules seen work. refl)

pub loop-i-preserved : goal.loop-i-preserved
loop-i-preserved c =
    puts_more (λ (ts : List Task). λ rules seen. in_order rules seen ts) weights (λ (t : Task). λ rules seen. act rules seen t) weight
    c.args.tasks.now.items c.loop-i.tasks.items c.push.new.self.items c.args.parts.now c.index-parts-i.result _ c.loop-i.i
    (λ t ts rules seen work. refl) (λ t ts. omega arith)
    (put_one c.loop-i.tasks.items c.push.new.self.items c.index-parts-i.result c.in_ok-push.ensures.items)
    c.index-parts-i.is c.loop-i-test.true c.loop-i.auto.i c.loop-i.invariant
