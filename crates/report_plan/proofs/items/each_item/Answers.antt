use Rattle.std.proofs.Common.{List, refl, arith}
use Rattle.luau_tree.specs.declared.tree as code
use Rattle.luau_tree.specs.View.{view_items}
use Rattle.report_work.specs.Expressions as listed
use Rattle.report_plan.specs.Weights.{items_weight}
use Rattle.report_plan.proofs.Plans.{awaits_less, awaits_none}
use Rattle.report_plan.proofs.items.each_item.Goals as goal

pub loop-one-preserved : goal.loop-one-preserved
loop-one-preserved c =
    awaits_less (λ i (xs : List code.Item.Item). λ rules seen. listed.each_item (listed.before_item rules seen) (view_items xs)) (λ xs. items_weight (view_items xs))
    c.args.tasks.now.items c.loop-one.tasks.items c.item.new.tasks.items c.args.items.now c.one-item.result _ c.loop-one.one-index _ _
    (λ rules seen work. refl) (omega arith) c.in_ok-item.ensures
    c.one-item.is c.loop-one-test.true c.loop-one.invariant

pub returns : goal.returns
returns c =
    awaits_none (λ i (xs : List code.Item.Item). λ rules seen. listed.each_item (listed.before_item rules seen) (view_items xs)) (λ xs. items_weight (view_items xs))
    c.args.tasks.now.items c.loop-one.tasks.items c.args.items.now c.loop-one.one-index c.loop-one-test.false (λ rules seen work. refl) c.loop-one.invariant
