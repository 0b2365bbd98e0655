use Rattle.std.proofs.Common.{◌≡◌, ◌≤◌, ◌+◌, drop}
use Rattle.luau_tree.specs.View.{view_arms}
use Rattle.report_rules.specs.Rules.{Rules}
use Rattle.rule_work.specs.Work.{Work}
use Rattle.infer_plan.specs.Run.{run}
use Rattle.infer_plan.specs.Steps.{each_arm}
use Rattle.infer_plan.specs.Weights.{arms_weight, weights}
use Rattle.infer_plan.proofs.branches.each_arm.Given as goal

-- those from here to the end are done before the tasks that were there
abbrev pub invariant-loop-i : goal.invariant-loop-i
invariant-loop-i l = record {
  work : (rules : Rules) (work : Work) → run rules l.tasks.items work ≡ run rules l.fn.tasks.items (each_arm rules (view_arms (drop l.i l.arms)) work);
  light : weights l.tasks.items ≤ weights l.fn.tasks.items + arms_weight (view_arms (drop l.i l.arms));
}
