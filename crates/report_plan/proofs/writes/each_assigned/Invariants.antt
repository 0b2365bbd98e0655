use Rattle.std.proofs.Common.{drop}
use Rattle.luau_tree.specs.View.{view_exprs}
use Rattle.report_work.specs.Statements as stated
use Rattle.report_plan.specs.Weights.{exprs_weight, twice}
use Rattle.report_plan.proofs.Plans.{Awaits}
use Rattle.report_plan.proofs.writes.each_assigned.Given as goal

-- those from here on are still to come
abbrev pub invariant-loop-i : goal.invariant-loop-i
invariant-loop-i l =
    Awaits l.fn.tasks.items l.tasks.items
    (λ rules seen. stated.each_value rules seen (stated.named_of_targets rules (view_exprs (drop l.i l.targets))) (view_exprs (drop l.i l.values)))
    (λ rules seen. stated.each_value rules seen (stated.named_of_targets rules (view_exprs l.targets)) (view_exprs l.values))
    (twice (exprs_weight (view_exprs (drop l.i l.values)))) (twice (exprs_weight (view_exprs l.values)))
