use Rattle.std.proofs.Common.{List, refl, arith}
use Rattle.luau_tree.specs.declared.tree as code
use Rattle.luau_tree.specs.View.{view_stat, view_stats}
use Rattle.report_work.specs.Statements as stated
use Rattle.report_plan.specs.Weights.{stat_weight, stats_weight}
use Rattle.report_plan.proofs.Plans.{awaits_less, awaits_none, put_one}
use Rattle.report_plan.proofs.kinds.each_stat.Goals as goal

pub loop-s-preserved : goal.loop-s-preserved
loop-s-preserved c =
    let x = c.s-item.result in
    awaits_less (λ i (ss : List code.Stat.Stat). λ rules seen. stated.each_stat (stated.with_stat rules seen) (view_stats ss)) (λ ss. stats_weight (view_stats ss))
    c.args.tasks.now.items c.loop-s.tasks.items c.push.new.self.items c.args.stats.now x _ c.loop-s.s-index
    (λ rules seen. stated.with_stat rules seen (view_stat x)) (stat_weight (view_stat x))
    (λ rules seen work. refl) (omega arith)
    (put_one c.loop-s.tasks.items c.push.new.self.items _ c.in_ok-push.ensures.items)
    c.s-item.is c.loop-s-test.true c.loop-s.invariant

pub returns : goal.returns
returns c =
    awaits_none (λ i (ss : List code.Stat.Stat). λ rules seen. stated.each_stat (stated.with_stat rules seen) (view_stats ss)) (λ ss. stats_weight (view_stats ss))
    c.args.tasks.now.items c.loop-s.tasks.items c.args.stats.now c.loop-s.s-index c.loop-s-test.false (λ rules seen work. refl) c.loop-s.invariant
