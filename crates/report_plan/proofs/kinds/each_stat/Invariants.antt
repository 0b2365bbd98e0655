use Rattle.std.proofs.Common.{drop}
use Rattle.luau_tree.specs.View.{view_stats}
use Rattle.report_work.specs.Statements as stated
use Rattle.report_plan.specs.Weights.{stats_weight}
use Rattle.report_plan.proofs.Plans.{Awaits}
use Rattle.report_plan.proofs.kinds.each_stat.Given as goal

-- those from here on are still to come
abbrev pub invariant-loop-s : goal.invariant-loop-s
invariant-loop-s l =
    Awaits l.fn.tasks.items l.tasks.items
    (λ rules seen. stated.each_stat (stated.with_stat rules seen) (view_stats (drop l.s-index l.stats)))
    (λ rules seen. stated.each_stat (stated.with_stat rules seen) (view_stats l.stats))
    (stats_weight (view_stats (drop l.s-index l.stats))) (stats_weight (view_stats l.stats))
