use Rattle.std.proofs.Common.{◌+◌, List, refl, ap, ◌∙◌, arith}
use Rattle.luau_tree.specs.declared.tree as code
use Rattle.luau_tree.specs.View.{view_choice, view_choices}
use Rattle.rule_work.specs.Work.{Work}
use Rattle.infer_plan.specs.Run.{run}
use Rattle.infer_plan.specs.Steps.{each_choice, with_choice}
use Rattle.infer_plan.specs.Weights.{choices_weight, expr_weight}
use Rattle.infer_plan.proofs.Plans.{all_of, more_weight, one_more}
use Rattle.infer_plan.proofs.branches.each_choice.Goals as goal

pub loop-i-preserved : goal.loop-i-preserved
loop-i-preserved c =
    let x = c.index-choices-i.result in
    let xs = c.args.choices.now in
    record {
      work = λ rules work. one_more rules c.args.tasks.now.items c.loop-i.tasks.items c.choice.new.tasks.items (λ (ys : List code.Choice.Choice). each_choice rules (view_choices ys)) (λ (w : Work). with_choice rules (view_choice x).0 (view_choice x).1 w) xs x _ c.loop-i.i work
          (c.in_ok-choice.ensures.work rules work) c.index-choices-i.is c.loop-i-test.true c.loop-i.auto.i refl (c.loop-i.invariant.work rules);
      light = more_weight c.args.tasks.now.items c.loop-i.tasks.items c.choice.new.tasks.items (λ (ys : List code.Choice.Choice). choices_weight (view_choices ys)) (7 + (expr_weight (view_choice x).0 + expr_weight (view_choice x).1)) xs x _ c.loop-i.i
          c.in_ok-choice.ensures.light c.index-choices-i.is c.loop-i-test.true c.loop-i.auto.i (omega arith) c.loop-i.invariant.light;
    }

pub returns-clause-work : goal.returns-clause-work
returns-clause-work c =
    λ rules work. c.loop-i.invariant.work rules work ∙ ap (λ (ys : List code.Choice.Choice). run rules c.args.tasks.now.items (each_choice rules (view_choices ys) work)) (all_of c.args.choices.now c.loop-i.i (omega arith))

pub returns-clause-light : goal.returns-clause-light
returns-clause-light c =
    omega (arith, c.loop-i.invariant.light, ap (λ (ys : List code.Choice.Choice). choices_weight (view_choices ys)) (all_of c.args.choices.now c.loop-i.i (omega arith)))
