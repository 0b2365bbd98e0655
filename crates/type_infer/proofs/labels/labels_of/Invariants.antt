use Rattle.std.proofs.Common.{◌≡◌, ◌++◌, drop}
use Rattle.luau_tree.specs.View.{view_items}
use Rattle.infer_plan.specs.Steps.{item_names}
use Rattle.type_infer.proofs.labels.labels_of.Given as goal

-- the names so far, and those of the items that are left
abbrev pub invariant-loop-item : goal.invariant-loop-item
invariant-loop-item l = item_names (view_items l.items) ≡ l.labels.items ++ item_names (view_items (drop l.item-index l.items))
