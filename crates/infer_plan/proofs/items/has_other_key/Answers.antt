use Rattle.std.proofs.Common.{List, refl, arith}
use Rattle.luau_tree.specs.declared.tree as code
use Rattle.std.specs.Prelude.{false}
use Rattle.luau_tree.specs.View.{view_item, view_items}
use Rattle.report_rules.specs.Forward.{has_other_key}
use Rattle.infer_plan.specs.Steps.{is_other_item}
use Rattle.infer_plan.proofs.ItemForms.{other_first}
use Rattle.module_facts.proofs.Loops.{found, none_left, passed}
use Rattle.infer_plan.proofs.items.has_other_key.Goals as goal

pub returns-then-item_has_other_key : goal.returns-then-item_has_other_key
returns-then-item_has_other_key c =
    found (λ (ys : List code.Item.Item). has_other_key (view_items ys)) (λ (y : code.Item.Item). is_other_item (view_item y)) (λ y ys. other_first (view_item y) (view_items ys))
    c.args.items.now c.loop-item.item-index c.item-item.result c.item_has_other_key.result _ (omega arith) c.item-item.is c.loop-item.invariant c.item_has_other_key.ensures c.if-item_has_other_key.true

pub loop-item-preserved : goal.loop-item-preserved
loop-item-preserved c =
    passed (λ (ys : List code.Item.Item). has_other_key (view_items ys)) (λ (y : code.Item.Item). is_other_item (view_item y)) (λ y ys. other_first (view_item y) (view_items ys))
    c.args.items.now c.loop-item.item-index c.item-item.result c.item_has_other_key.result _ (omega arith) c.item-item.is c.loop-item.invariant c.item_has_other_key.ensures c.if-item_has_other_key.false

pub returns : goal.returns
returns c =
    none_left (λ (ys : List code.Item.Item). has_other_key (view_items ys)) c.args.items.now c.loop-item.item-index _ false (omega arith) c.loop-item.invariant refl
