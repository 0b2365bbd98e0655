use Rattle.std.proofs.Common.{drop}
use Rattle.luau_tree.specs.View.{view_items}
use Rattle.report_work.specs.Expressions as listed
use Rattle.report_plan.specs.Weights.{items_weight}
use Rattle.report_plan.proofs.Plans.{Awaits}
use Rattle.report_plan.proofs.items.each_item.Given as goal

-- those from here on are still to come
abbrev pub invariant-loop-one : goal.invariant-loop-one
invariant-loop-one l =
    Awaits l.fn.tasks.items l.tasks.items
    (λ rules seen. listed.each_item (listed.before_item rules seen) (view_items (drop l.one-index l.items)))
    (λ rules seen. listed.each_item (listed.before_item rules seen) (view_items l.items))
    (items_weight (view_items (drop l.one-index l.items))) (items_weight (view_items l.items))
