use Rattle.std.proofs.Common.{◌≡◌, ◌≤◌, ◌+◌, drop}
use Rattle.luau_tree.specs.View.{view_stats}
use Rattle.report_rules.specs.Rules.{Rules}
use Rattle.rule_work.specs.Work.{Work}
use Rattle.infer_plan.specs.Run.{run}
use Rattle.infer_plan.specs.Steps.{each_stat}
use Rattle.infer_plan.specs.Weights.{stats_weight, weights}
use Rattle.infer_plan.proofs.lists.each_stat.Given as goal

-- those from here to the end are done before the tasks that were there
abbrev pub invariant-loop-i : goal.invariant-loop-i
invariant-loop-i l = record {
  work : (rules : Rules) (work : Work) → run rules l.tasks.items work ≡ run rules l.fn.tasks.items (each_stat rules (view_stats (drop l.i l.stats)) work);
  light : weights l.tasks.items ≤ weights l.fn.tasks.items + stats_weight (view_stats (drop l.i l.stats));
}
