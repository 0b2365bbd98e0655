use Rattle.luau_tree.specs.View.{view_item, view_items}
use Rattle.report_rules.specs.Effects.{effects_of_item}
use Rattle.module_facts.specs.Facts.{rules_of_facts}
use Rattle.module_facts.specs.Later as spec
use Rattle.module_facts.proofs.Counting.{Counted}
use Rattle.module_facts.proofs.facts.Facts.later_items.Given as goal

abbrev pub invariant-loop-item : goal.invariant-loop-item
invariant-loop-item l = Counted (λ item. effects_of_item (rules_of_facts l.self) (view_item item)) (λ items. spec.later_items (rules_of_facts l.self) (view_items items)) l.items l.item-index l.left l.later.items
