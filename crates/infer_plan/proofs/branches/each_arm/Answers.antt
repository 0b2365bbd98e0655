use Rattle.std.proofs.Common.{◌+◌, List, refl, ap, ◌∙◌, arith}
use Rattle.luau_tree.specs.declared.tree as code
use Rattle.luau_tree.specs.View.{view_arm, view_arms}
use Rattle.rule_work.specs.Work.{Work}
use Rattle.infer_plan.specs.Run.{run}
use Rattle.infer_plan.specs.Steps.{each_arm, with_arm}
use Rattle.infer_plan.specs.Weights.{arms_weight, block_weight, expr_weight}
use Rattle.infer_plan.proofs.Plans.{all_of, more_weight, one_more}
use Rattle.infer_plan.proofs.branches.each_arm.Goals as goal

pub loop-i-preserved : goal.loop-i-preserved
loop-i-preserved c =
    let x = c.index-arms-i.result in
    let xs = c.args.arms.now in
    record {
      work = λ rules work. one_more rules c.args.tasks.now.items c.loop-i.tasks.items c.arm.new.tasks.items (λ (ys : List code.Arm.Arm). each_arm rules (view_arms ys)) (λ (w : Work). with_arm rules (view_arm x).0 (view_arm x).1 w) xs x _ c.loop-i.i work
          (c.in_ok-arm.ensures.work rules work) c.index-arms-i.is c.loop-i-test.true c.loop-i.auto.i refl (c.loop-i.invariant.work rules);
      light = more_weight c.args.tasks.now.items c.loop-i.tasks.items c.arm.new.tasks.items (λ (ys : List code.Arm.Arm). arms_weight (view_arms ys)) (8 + (expr_weight (view_arm x).0 + block_weight (view_arm x).1)) xs x _ c.loop-i.i
          c.in_ok-arm.ensures.light c.index-arms-i.is c.loop-i-test.true c.loop-i.auto.i (omega arith) c.loop-i.invariant.light;
    }

pub returns-clause-work : goal.returns-clause-work
returns-clause-work c =
    λ rules work. c.loop-i.invariant.work rules work ∙ ap (λ (ys : List code.Arm.Arm). run rules c.args.tasks.now.items (each_arm rules (view_arms ys) work)) (all_of c.args.arms.now c.loop-i.i (omega arith))

pub returns-clause-light : goal.returns-clause-light
returns-clause-light c =
    omega (arith, c.loop-i.invariant.light, ap (λ (ys : List code.Arm.Arm). arms_weight (view_arms ys)) (all_of c.args.arms.now c.loop-i.i (omega arith)))
