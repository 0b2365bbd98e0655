use Rattle.std.proofs.Common.{◌≡◌, ◌≤◌, ◌+◌, drop}
use Rattle.luau_tree.specs.View.{view_binds}
use Rattle.report_rules.specs.Rules.{Rules}
use Rattle.rule_work.specs.Work.{Work}
use Rattle.infer_plan.specs.Run.{run}
use Rattle.infer_plan.specs.Steps.{each_declared}
use Rattle.infer_plan.specs.Weights.{declared_weight, weights}
use Rattle.infer_plan.proofs.writes.each_declared.Given as goal

-- those from here to the end are done before the tasks that were there
abbrev pub invariant-loop-i : goal.invariant-loop-i
invariant-loop-i l = record {
  work : (rules : Rules) (work : Work) → run rules l.tasks.items work ≡ run rules l.fn.tasks.items (each_declared rules l.expanding (view_binds (drop l.i l.binds)) work);
  light : weights l.tasks.items ≤ weights l.fn.tasks.items + declared_weight (view_binds (drop l.i l.binds));
}
