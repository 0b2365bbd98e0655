use Rattle.std.proofs.Common.{drop}
use Rattle.luau_tree.specs.View.{view_arms}
use Rattle.report_work.specs.Statements as stated
use Rattle.report_plan.specs.Weights.{arms_weight}
use Rattle.report_plan.proofs.Plans.{Awaits}
use Rattle.report_plan.proofs.branches.each_arm.Given as goal

-- those from here on are still to come
abbrev pub invariant-loop-one : goal.invariant-loop-one
invariant-loop-one l =
    Awaits l.fn.tasks.items l.tasks.items
    (λ rules seen. stated.each_arm (stated.with_arm rules seen) (view_arms (drop l.one-index l.arms)))
    (λ rules seen. stated.each_arm (stated.with_arm rules seen) (view_arms l.arms))
    (arms_weight (view_arms (drop l.one-index l.arms))) (arms_weight (view_arms l.arms))
