use Rattle.std.proofs.Common.{[], ◌++◌, ℕ, ◌+◌, List, sym, ap, ◌∙◌, arith, drop}
use Rattle.luau_tree.specs.declared.tree as code
use Rattle.std.specs.Prelude.{Option}
use Rattle.luau_tree.specs.View.{view_item, view_items}
use Rattle.infer_plan.specs.Steps.{item_names, name_before}
use Rattle.type_infer.specs.ItemNames.{item_name}
use Rattle.type_infer.proofs.NameLists.{names_of, named_before}
use Rattle.module_facts.proofs.Loops.{rest_read, none_left}
use Rattle.std.proofs.Common.{append-nil}
use Rattle.type_infer.proofs.labels.labels_of.Goals as goal

pub loop-item-preserved : goal.loop-item-preserved
loop-item-preserved c =
    let xs = c.args.items.now in
    let i = c.loop-item.item-index in
    let x = c.item-item.result in
    let left = item_names (view_items (drop (i + 1) xs)) in
    let old = c.loop-item.labels.items in
    rest_read (λ (ys : List code.Item.Item). c.loop-item.labels.items ++ item_names (view_items ys)) xs i x _ (omega arith) c.item-item.is c.loop-item.invariant
    ∙ ap (λ (names : List (List ℕ)). old ++ names) (names_of (view_item x) (view_items (drop (i + 1) xs)))
    ∙ sym (named_before (item_name (view_item x)) old left)
    ∙ sym (ap (λ (names : List (List ℕ)). names ++ left) (c.in_ok-add.ensures ∙ ap (λ (name : Option (List ℕ)). old ++ name_before name []) c.name_of_item.ensures))

pub returns : goal.returns
returns c =
    none_left (λ (ys : List code.Item.Item). c.loop-item.labels.items ++ item_names (view_items ys)) c.args.items.now c.loop-item.item-index _ c.loop-item.labels.items (omega arith) c.loop-item.invariant (append-nil c.loop-item.labels.items)
