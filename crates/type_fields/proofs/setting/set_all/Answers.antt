use Rattle.std.proofs.Common.{◌≡◌, ℕ, List, ap, ◌∙◌}
use Rattle.type_arena.specs.declared.node.TypeRef.{TypeRef}
use Rattle.type_fields.specs.Setting.{with_name, without_name, set_row}
use Rattle.type_fields.proofs.UnionFacts.{mapped_more}
use Rattle.type_fields.proofs.setting.set_all.Goals as goal

pub loop-row-preserved : goal.loop-row-preserved
loop-row-preserved c =
    let same : c.in_ok-fields.fields ≡ with_name c.args.name.now c.args.value (without_name c.args.name.now c.row-item.result.fields) =
    c.in_ok-fields.ensures ∙ ap (λ (fs : List (List ℕ × TypeRef)). with_name c.args.name.now c.args.value (without_name c.args.name.now fs)) c.as_slice.ensures in
    mapped_more (set_row c.args.name.now c.args.value) c.args.rows.now c.loop-row.row-index c.row-item.result (record { frozen = c.row-item.result.frozen; fields = c.in_ok-fields.fields }) c.loop-row.all.items c.push.new.self.items
    c.loop-row-test.true c.row-item.is (λ i. record { frozen = c.row-item.result.frozen; fields = same i }) c.loop-row.invariant c.in_ok-push.ensures.items
