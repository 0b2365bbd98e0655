use Rattle.std.proofs.Common.{◌≡◌, ◌≤◌, ◌+◌, drop}
use Rattle.report_rules.specs.Rules.{Rules}
use Rattle.rule_work.specs.Work.{Work}
use Rattle.infer_plan.specs.Run.{run, in_order}
use Rattle.infer_plan.specs.Weights.{weights}
use Rattle.infer_plan.proofs.plan.plan.Given as goal

-- the parts from here to the end are done before the tasks that were there, and weigh as much
abbrev pub invariant-loop-i : goal.invariant-loop-i
invariant-loop-i l = record {
  work : (rules : Rules) (work : Work) → run rules l.tasks.items work ≡ run rules l.fn.tasks.items (in_order rules (drop l.i l.parts) work);
  light : weights l.tasks.items ≤ weights l.fn.tasks.items + weights (drop l.i l.parts);
}
