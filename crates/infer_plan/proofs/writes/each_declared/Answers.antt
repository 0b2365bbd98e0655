use Rattle.std.proofs.Common.{List, refl, ap, ◌∙◌, arith}
use Rattle.luau_tree.specs.declared.tree as code
use Rattle.luau_tree.specs.View.{view_bind, view_binds}
use Rattle.rule_work.specs.Work.{Work}
use Rattle.infer_plan.specs.Run.{run}
use Rattle.infer_plan.specs.Steps.{declared_one, each_declared}
use Rattle.infer_plan.specs.Weights.{declared_weight}
use Rattle.infer_plan.proofs.Plans.{all_of, more_weight, one_more}
use Rattle.infer_plan.proofs.writes.each_declared.Goals as goal

pub loop-i-preserved : goal.loop-i-preserved
loop-i-preserved c =
    let x = c.index-binds-i.result in
    let xs = c.args.binds.now in
    record {
      work = λ rules work. one_more rules c.args.tasks.now.items c.loop-i.tasks.items c.declared.new.tasks.items (λ (ys : List code.Bind.Bind). each_declared rules c.args.expanding (view_binds ys)) (λ (w : Work). declared_one rules c.args.expanding (view_bind x) w) xs x _ c.loop-i.i work
          (c.in_ok-declared.ensures.work rules work) c.index-binds-i.is c.loop-i-test.true c.loop-i.auto.i refl (c.loop-i.invariant.work rules);
      light = more_weight c.args.tasks.now.items c.loop-i.tasks.items c.declared.new.tasks.items (λ (ys : List code.Bind.Bind). declared_weight (view_binds ys)) (4) xs x _ c.loop-i.i
          c.in_ok-declared.ensures.light c.index-binds-i.is c.loop-i-test.true c.loop-i.auto.i (omega arith) c.loop-i.invariant.light;
    }

pub returns-clause-work : goal.returns-clause-work
returns-clause-work c =
    λ rules work. c.loop-i.invariant.work rules work ∙ ap (λ (ys : List code.Bind.Bind). run rules c.args.tasks.now.items (each_declared rules c.args.expanding (view_binds ys) work)) (all_of c.args.binds.now c.loop-i.i (omega arith))

pub returns-clause-light : goal.returns-clause-light
returns-clause-light c =
    omega (arith, c.loop-i.invariant.light, ap (λ (ys : List code.Bind.Bind). declared_weight (view_binds ys)) (all_of c.args.binds.now c.loop-i.i (omega arith)))
