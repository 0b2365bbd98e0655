use Rattle.std.proofs.Common.{◌≡◌, ◌<◌, ◌≤◌, ◌∙◌, ◌++◌, ◌∷◌, Bool, List, [], refl, ap, length, arith, rules}
use Rattle.std.specs.Prelude.{nat_lt}
use Rattle.luau_tree.specs.declared.tree as code
use Rattle.luau_tree.specs.View.{view_item, view_items}
use Rattle.report_rules.specs.Effects as syntax
use Rattle.module_facts.specs.Facts.{rules_of_facts}
use Rattle.module_facts.specs.Later as spec
use Rattle.module_facts.proofs.Counting.{any_counted, counted_all, counted_step}
use Rattle.module_facts.proofs.facts.Facts.later_items.Goals as goal

pub loop-item-preserved : goal.loop-item-preserved
loop-item-preserved c =
    let rules = rules_of_facts c.args.self.now in
    counted_step (λ (item : code.Item.Item). syntax.effects_of_item rules (view_item item)) (λ (items : List code.Item.Item). spec.later_items rules (view_items items))
    (λ x xs. ap (λ (b : Bool). b ∷ spec.later_items rules (view_items xs)) (any_counted (λ (items : List code.Item.Item). syntax.effects_of_items rules (view_items items)) (λ (item : code.Item.Item). syntax.effects_of_item rules (view_item item)) refl (λ y ys. refl) xs))
    c.args.items.now c.loop-item.item-index c.loop-item.left c.left_behind_item-behind.result c.loop-item.later.items c.push.new.self.items c.item-item.result _ (omega arith) c.item-item.is c.loop-item.invariant
    c.left_behind_item-behind.ensures refl c.in_ok-push.ensures.items
