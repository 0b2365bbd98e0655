use Rattle.std.proofs.Common.{List, refl, arith}
use Rattle.luau_tree.specs.declared.tree as code
use Rattle.luau_tree.specs.View.{view_choices}
use Rattle.report_work.specs.Expressions as listed
use Rattle.report_work.specs.Found.{found_choice}
use Rattle.report_plan.specs.Weights.{choices_weight}
use Rattle.report_plan.proofs.Plans.{awaits_less, awaits_none}
use Rattle.report_plan.proofs.branches.each_choice_found.Goals as goal

pub loop-one-preserved : goal.loop-one-preserved
loop-one-preserved c =
    awaits_less (λ i (xs : List code.Choice.Choice). λ rules seen. listed.each_choice (found_choice rules seen) (view_choices xs)) (λ xs. choices_weight (view_choices xs))
    c.args.tasks.now.items c.loop-one.tasks.items c.choice_found.new.tasks.items c.args.choices.now c.one-item.result _ c.loop-one.one-index _ _
    (λ rules seen work. refl) (omega arith) c.in_ok-choice_found.ensures
    c.one-item.is c.loop-one-test.true c.loop-one.invariant

pub returns : goal.returns
returns c =
    awaits_none (λ i (xs : List code.Choice.Choice). λ rules seen. listed.each_choice (found_choice rules seen) (view_choices xs)) (λ xs. choices_weight (view_choices xs))
    c.args.tasks.now.items c.loop-one.tasks.items c.args.choices.now c.loop-one.one-index c.loop-one-test.false (λ rules seen work. refl) c.loop-one.invariant
