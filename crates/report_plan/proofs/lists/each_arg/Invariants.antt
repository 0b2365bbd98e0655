use Rattle.std.proofs.Common.{drop}
use Rattle.luau_tree.specs.View.{view_expr, view_exprs}
use Rattle.report_work.specs.Expressions as listed
use Rattle.report_plan.specs.Run.{checked}
use Rattle.report_plan.specs.Weights.{checked_loads}
use Rattle.report_plan.proofs.Plans.{Awaits}
use Rattle.report_plan.proofs.lists.each_arg.Given as goal

-- those from here on are still to come
abbrev pub invariant-loop-i : goal.invariant-loop-i
invariant-loop-i l =
    Awaits l.fn.tasks.items l.tasks.items
    (λ rules seen. listed.each_arg (checked rules seen l.way) (view_expr l.callee) l.i (view_exprs (drop l.i l.args)))
    (λ rules seen. listed.each_arg (checked rules seen l.way) (view_expr l.callee) 0 (view_exprs l.args))
    (checked_loads l.way (view_exprs (drop l.i l.args))) (checked_loads l.way (view_exprs l.args))
