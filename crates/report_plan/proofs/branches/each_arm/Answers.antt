use Rattle.std.proofs.Common.{List, refl, arith}
use Rattle.luau_tree.specs.declared.tree as code
use Rattle.luau_tree.specs.View.{view_arms}
use Rattle.report_work.specs.Statements as stated
use Rattle.report_plan.specs.Weights.{arms_weight}
use Rattle.report_plan.proofs.Plans.{awaits_less, awaits_none}
use Rattle.report_plan.proofs.branches.each_arm.Goals as goal

pub loop-one-preserved : goal.loop-one-preserved
loop-one-preserved c =
    awaits_less (λ i (xs : List code.Arm.Arm). λ rules seen. stated.each_arm (stated.with_arm rules seen) (view_arms xs)) (λ xs. arms_weight (view_arms xs))
    c.args.tasks.now.items c.loop-one.tasks.items c.arm.new.tasks.items c.args.arms.now c.one-item.result _ c.loop-one.one-index _ _
    (λ rules seen work. refl) (omega arith) c.in_ok-arm.ensures
    c.one-item.is c.loop-one-test.true c.loop-one.invariant

pub returns : goal.returns
returns c =
    awaits_none (λ i (xs : List code.Arm.Arm). λ rules seen. stated.each_arm (stated.with_arm rules seen) (view_arms xs)) (λ xs. arms_weight (view_arms xs))
    c.args.tasks.now.items c.loop-one.tasks.items c.args.arms.now c.loop-one.one-index c.loop-one-test.false (λ rules seen work. refl) c.loop-one.invariant
