use Rattle.std.proofs.Common.{drop}
use Rattle.report_plan.specs.Run.{in_order}
use Rattle.report_plan.specs.Puts.{Puts}
use Rattle.report_plan.specs.Weights.{weights}
use Rattle.report_plan.proofs.plan.plan.Given as goal

-- the parts from here to the end are put before the tasks that were there
abbrev pub invariant-loop-i : goal.invariant-loop-i
invariant-loop-i l = Puts l.fn.tasks.items l.tasks.items (λ rules seen. in_order rules seen (drop l.i l.parts)) (weights (drop l.i l.parts))
