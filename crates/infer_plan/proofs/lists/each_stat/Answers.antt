use Rattle.std.proofs.Common.{◌+◌, List, refl, ap, ◌∙◌, arith}
use Rattle.luau_tree.specs.declared.tree as code
use Rattle.luau_tree.specs.View.{view_stat, view_stats}
use Rattle.rule_work.specs.Work.{Work}
use Rattle.rule_work.specs.Moves.{added}
use Rattle.infer_plan.specs.Run.{run}
use Rattle.infer_plan.specs.Steps.{each_stat, with_stat}
use Rattle.infer_plan.specs.Weights.{stat_weight, stats_weight}
use Rattle.infer_plan.proofs.Plans.{all_of, more_weight, one_more}
use Rattle.infer_plan.proofs.lists.each_stat.Goals as goal

pub loop-i-preserved : goal.loop-i-preserved
loop-i-preserved c =
    let x = c.index-stats-i.result in
    let xs = c.args.stats.now in
    record {
      work = λ rules work. one_more rules c.args.tasks.now.items c.loop-i.tasks.items c.stat.new.tasks.items (λ (ys : List code.Stat.Stat). each_stat rules (view_stats ys)) (λ (w : Work). added (with_stat rules (view_stat x) w)) xs x _ c.loop-i.i work
          (c.in_ok-stat.ensures.work rules work) c.index-stats-i.is c.loop-i-test.true c.loop-i.auto.i refl (c.loop-i.invariant.work rules);
      light = more_weight c.args.tasks.now.items c.loop-i.tasks.items c.stat.new.tasks.items (λ (ys : List code.Stat.Stat). stats_weight (view_stats ys)) (1 + stat_weight (view_stat x)) xs x _ c.loop-i.i
          c.in_ok-stat.ensures.light c.index-stats-i.is c.loop-i-test.true c.loop-i.auto.i (omega arith) c.loop-i.invariant.light;
    }

pub returns-clause-work : goal.returns-clause-work
returns-clause-work c =
    λ rules work. c.loop-i.invariant.work rules work ∙ ap (λ (ys : List code.Stat.Stat). run rules c.args.tasks.now.items (each_stat rules (view_stats ys) work)) (all_of c.args.stats.now c.loop-i.i (omega arith))

pub returns-clause-light : goal.returns-clause-light
returns-clause-light c =
    omega (arith, c.loop-i.invariant.light, ap (λ (ys : List code.Stat.Stat). stats_weight (view_stats ys)) (all_of c.args.stats.now c.loop-i.i (omega arith)))
