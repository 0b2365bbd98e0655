use Rattle.std.proofs.Common.{drop}
use Rattle.luau_tree.specs.View.{view_exprs}
use Rattle.report_work.specs.Checks.{Unchecked}
use Rattle.report_work.specs.Expressions as listed
use Rattle.report_plan.specs.Run.{checked}
use Rattle.report_plan.specs.Weights.{checked_loads}
use Rattle.report_plan.proofs.Plans.{Awaits}
use Rattle.report_plan.proofs.lists.each.Given as goal

-- those from here on are still to come
abbrev pub invariant-loop-e : goal.invariant-loop-e
invariant-loop-e l =
    Awaits l.fn.tasks.items l.tasks.items
    (λ rules seen. listed.each (checked rules seen l.way Unchecked) (view_exprs (drop l.e-index l.es)))
    (λ rules seen. listed.each (checked rules seen l.way Unchecked) (view_exprs l.es))
    (checked_loads l.way (view_exprs (drop l.e-index l.es))) (checked_loads l.way (view_exprs l.es))
