use Rattle.std.proofs.Common.{◌≡◌, ◌≤◌, ◌+◌, drop}
use Rattle.luau_tree.specs.View.{view_exprs}
use Rattle.report_rules.specs.Rules.{Rules}
use Rattle.report_rules.specs.Effects.{targets_of}
use Rattle.infer_plan.specs.Read.{IsReadBy}
use Rattle.rule_work.specs.Work.{Work}
use Rattle.infer_plan.specs.Run.{run}
use Rattle.infer_plan.specs.Steps.{each_disturbed}
use Rattle.infer_plan.specs.Weights.{written_weight, weights}
use Rattle.infer_plan.proofs.writes.each_disturbed.Given as goal

-- those from here to the end are done before the tasks that were there
abbrev pub invariant-loop-i : goal.invariant-loop-i
invariant-loop-i l = record {
  work : (rules : Rules) (work : Work) → IsReadBy l.facts rules → run rules l.tasks.items work ≡ run rules l.fn.tasks.items (each_disturbed (targets_of rules (view_exprs (drop l.i l.targets))) work);
  light : weights l.tasks.items ≤ weights l.fn.tasks.items + written_weight (view_exprs (drop l.i l.targets));
}
