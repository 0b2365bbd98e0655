use Rattle.std.proofs.Common.{◌≡◌, drop}
use Rattle.luau_tree.specs.View.{view_items}
use Rattle.report_rules.specs.Forward.{has_other_key}
use Rattle.infer_plan.proofs.items.has_other_key.Given as goal

-- no item so far has such a key
abbrev pub invariant-loop-item : goal.invariant-loop-item
invariant-loop-item l = has_other_key (view_items l.items) ≡ has_other_key (view_items (drop l.item-index l.items))
