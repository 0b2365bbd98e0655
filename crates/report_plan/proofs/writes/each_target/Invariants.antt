use Rattle.std.proofs.Common.{drop}
use Rattle.luau_tree.specs.View.{view_exprs}
use Rattle.report_work.specs.Expressions as listed
use Rattle.report_work.specs.Statements as stated
use Rattle.report_plan.specs.Weights.{targets_weight}
use Rattle.report_plan.proofs.Plans.{Awaits}
use Rattle.report_plan.proofs.writes.each_target.Given as goal

-- those from here on are still to come
abbrev pub invariant-loop-target : goal.invariant-loop-target
invariant-loop-target l =
    Awaits l.fn.tasks.items l.tasks.items
    (λ rules seen. listed.each (stated.with_target rules seen) (view_exprs (drop l.target-index l.targets)))
    (λ rules seen. listed.each (stated.with_target rules seen) (view_exprs l.targets))
    (targets_weight (view_exprs (drop l.target-index l.targets))) (targets_weight (view_exprs l.targets))
