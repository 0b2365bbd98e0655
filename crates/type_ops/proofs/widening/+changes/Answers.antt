use Rattle.std.proofs.Common.{◌≡◌, ◌<◌, ◌≤◌, ◌∷◌, [], ℕ, Bool, not, List, length, sym, ap, ◌∙◌, subst, arith}
use Rattle.std.specs.Prelude.{◌||◌, is_some, IsTrue, All, Contains}
use Rattle.std.proofs.lemmas.List.Elements.{All-cons, All-nil}
use Rattle.type_arena.specs.Arena.{home_of, store_of}
use Rattle.type_arena.specs.Homes.{MayUse}
use Rattle.type_arena.specs.Meaning.{term_of, rows_by, fields_by}
use Rattle.type_arena.specs.Store.{has, field_types, row_types}
use Rattle.type_arena.specs.declared.arena.Arena.{Arena}
use Rattle.type_arena.specs.declared.node.Node.{Node}
use Rattle.type_arena.specs.declared.node.Row.{Row}
use Rattle.type_arena.specs.declared.node.TypeRef.{TypeRef}
use Rattle.type_normal.specs.Adds.{Adds}
use Rattle.type_normal.proofs.AddsFacts.{there_kept}
use Rattle.type_normal.proofs.RowsFacts.{all_fewer}
use Rattle.type_normal.proofs.ShapeFacts.{field_item_holds, row_item_hold}
use Rattle.type_normal.specs.Growing.{given_refs}
use Rattle.type_ops.proofs.ChangeFacts.{weight, weight_of_rows, weight_of_fields, field_weight, row_weight, weight_of_node, FieldsMade, RowsMade, field_lost, field_adds, field_more, fields_done, row_adds, row_more, rows_done, type_adds, TypeMade, type_made, changes_more, made_change}
use Rattle.type_ops.proofs.GrowFacts.{adds_failed, fields_kept}
use Rattle.type_ops.proofs.widening.+changes.Goals as goal

pub change-returns-in-Some-clause-term : goal.change-returns-in-Some-clause-term
change-returns-in-Some-clause-term t c =
    (c.requires.right c.args.at c.in-Some.new.now (sym c.in-Some.ensures.value)).means

pub change-returns-in-Some-clause-clean : goal.change-returns-in-Some-clause-clean
change-returns-in-Some-clause-clean t c =
    (c.requires.right c.args.at c.in-Some.new.now (sym c.in-Some.ensures.value)).clean

pub change-change_rows-requires : goal.change-change_rows-requires
change-change_rows-requires t c =
    let whole : c.as_slice.result.now ≡ c.node.result.now.rows = c.as_slice.ensures ∙ ap (λ (n : Node). n.rows) c.in_ok-node.ensures in
    let same : weight_of_rows (rows_by (term_of (store_of c.args.arena.now)) c.as_slice.result.now) ≡ weight_of_rows (rows_by (term_of (store_of c.args.arena.now)) c.node.result.now.rows) = ap (λ (zs : List Row). weight_of_rows (rows_by (term_of (store_of c.args.arena.now)) zs)) whole in
    let node = weight_of_node (store_of c.args.arena.now) c.args.arena.now.sound c.args.at c.node.result.now c.node.ensures in
    let there =
    subst (λ (xs : List Row). All (λ at. IsTrue (has (store_of c.args.arena.now) at)) (row_types xs)) (sym whole)
    (c.args.arena.now.sound.there c.args.at c.node.result.now c.node.ensures) in
    (omega (arith, same, node, c.decreases), (there, c.requires.right))

pub change-returns-in_err-raw-clause-adds : goal.change-returns-in_err-raw-clause-adds
change-returns-in_err-raw-clause-adds t c =
    type_adds c.args.arena.now c.change_rows.new.arena c.args.at c.node.result.now c.as_slice.result.now c.node.ensures (c.as_slice.ensures ∙ ap (λ (n : Node). n.rows) c.in_ok-node.ensures) c.change_rows.ensures.adds

pub change-returns-in_err-rows-clause-adds : goal.change-returns-in_err-rows-clause-adds
change-returns-in_err-rows-clause-adds t c =
    type_adds c.args.arena.now c.change_rows.new.arena c.args.at c.node.result.now c.as_slice.result.now c.node.ensures (c.as_slice.ensures ∙ ap (λ (n : Node). n.rows) c.in_ok-node.ensures) c.change_rows.ensures.adds

pub change-intern-requires : goal.change-intern-requires
change-intern-requires t c =
    all_fewer (λ at. IsTrue (has (store_of c.change_rows.new.arena) at)) (row_types c.in_ok-raw.raw.items) (row_types c.in_ok-rows.rows)
    (λ child k. subst (λ (zs : List Row). Contains (row_types zs) child) c.as_slice-2.ensures.value (c.in_ok-rows.ensures.refs child k)) c.in_ok-raw.ensures.there

pub change-returns-in_err-new-clause-adds : goal.change-returns-in_err-new-clause-adds
change-returns-in_err-new-clause-adds t c =
    adds_failed c.args.arena.now c.change_rows.new.arena c.intern.new.self (c.args.at ∷ [])
    (All-cons (λ at. IsTrue (has (store_of c.args.arena.now) at)) c.args.at [] c.requires.there (All-nil (λ at. IsTrue (has (store_of c.args.arena.now) at))))
    (type_adds c.args.arena.now c.change_rows.new.arena c.args.at c.node.result.now c.as_slice.result.now c.node.ensures (c.as_slice.ensures ∙ ap (λ (n : Node). n.rows) c.in_ok-node.ensures) c.change_rows.ensures.adds)
    c.in_err-new.ensures.below c.in_err-new.ensures.own_home c.in_err-new.ensures.err

pub change-returns-in_err-insert-clause-adds : goal.change-returns-in_err-insert-clause-adds
change-returns-in_err-insert-clause-adds t c =
    (type_made c.args.written.now c.args.arena.now c.change_rows.new.arena c.intern.new.self c.args.at c.in_ok-new.new c.node.result.now c.in_ok-node.node c.as_slice.result.now c.in_ok-raw.raw.items c.as_slice-2.result.now c.in_ok-rows.rows
    c.node.ensures c.in_ok-node.ensures c.as_slice.ensures c.in_ok-raw.ensures.rows c.in_ok-raw.ensures.there c.in_ok-raw.ensures.clean c.in_ok-raw.ensures.adds
    c.as_slice-2.ensures.value c.in_ok-rows.ensures.rows c.in_ok-rows.ensures.refs c.in_ok-new.ensures.node c.in_ok-new.ensures.meaning c.in_ok-new.ensures.home c.in_ok-new.ensures.below c.in_ok-new.ensures.own_home c.in_ok-new.ensures.keeps c.in_ok-new.ensures.kept c.in_ok-new.ensures.homes).adds

pub change-returns-clause-term : goal.change-returns-clause-term
change-returns-clause-term t c =
    (type_made c.args.written.now c.args.arena.now c.change_rows.new.arena c.intern.new.self c.args.at c.in_ok-new.new c.node.result.now c.in_ok-node.node c.as_slice.result.now c.in_ok-raw.raw.items c.as_slice-2.result.now c.in_ok-rows.rows
    c.node.ensures c.in_ok-node.ensures c.as_slice.ensures c.in_ok-raw.ensures.rows c.in_ok-raw.ensures.there c.in_ok-raw.ensures.clean c.in_ok-raw.ensures.adds
    c.as_slice-2.ensures.value c.in_ok-rows.ensures.rows c.in_ok-rows.ensures.refs c.in_ok-new.ensures.node c.in_ok-new.ensures.meaning c.in_ok-new.ensures.home c.in_ok-new.ensures.below c.in_ok-new.ensures.own_home c.in_ok-new.ensures.keeps c.in_ok-new.ensures.kept c.in_ok-new.ensures.homes).means

pub change-returns-clause-right : goal.change-returns-clause-right
change-returns-clause-right t c =
    let made : TypeMade c.args.written.now c.args.arena.now c.intern.new.self c.args.at c.in_ok-new.new = type_made c.args.written.now c.args.arena.now c.change_rows.new.arena c.intern.new.self c.args.at c.in_ok-new.new c.node.result.now c.in_ok-node.node c.as_slice.result.now c.in_ok-raw.raw.items c.as_slice-2.result.now c.in_ok-rows.rows
    c.node.ensures c.in_ok-node.ensures c.as_slice.ensures c.in_ok-raw.ensures.rows c.in_ok-raw.ensures.there c.in_ok-raw.ensures.clean c.in_ok-raw.ensures.adds
    c.as_slice-2.ensures.value c.in_ok-rows.ensures.rows c.in_ok-rows.ensures.refs c.in_ok-new.ensures.node c.in_ok-new.ensures.meaning c.in_ok-new.ensures.home c.in_ok-new.ensures.below c.in_ok-new.ensures.own_home c.in_ok-new.ensures.keeps c.in_ok-new.ensures.kept c.in_ok-new.ensures.homes in
    changes_more c.args.written.now c.change_rows.new.arena c.intern.new.self _ (c.in_ok-new.new ∷ []) c.change_rows.new.known c.insert.new.self c.args.at c.in_ok-new.new
    (record { below = c.in_ok-new.ensures.below; home = c.in_ok-new.ensures.own_home; keeps = c.in_ok-new.ensures.keeps; kept = c.in_ok-new.ensures.kept; homes = c.in_ok-new.ensures.homes })
    c.in_ok-raw.ensures.right
    (made_change c.args.written.now c.args.arena.now c.intern.new.self c.args.at c.in_ok-new.new made.adds c.requires.there (ap is_some c.in_ok-new.ensures.node) made.means made.clean)
    c.in_ok-insert.ensures.updates.0

pub change-returns-clause-clean : goal.change-returns-clause-clean
change-returns-clause-clean t c =
    (type_made c.args.written.now c.args.arena.now c.change_rows.new.arena c.intern.new.self c.args.at c.in_ok-new.new c.node.result.now c.in_ok-node.node c.as_slice.result.now c.in_ok-raw.raw.items c.as_slice-2.result.now c.in_ok-rows.rows
    c.node.ensures c.in_ok-node.ensures c.as_slice.ensures c.in_ok-raw.ensures.rows c.in_ok-raw.ensures.there c.in_ok-raw.ensures.clean c.in_ok-raw.ensures.adds
    c.as_slice-2.ensures.value c.in_ok-rows.ensures.rows c.in_ok-rows.ensures.refs c.in_ok-new.ensures.node c.in_ok-new.ensures.meaning c.in_ok-new.ensures.home c.in_ok-new.ensures.below c.in_ok-new.ensures.own_home c.in_ok-new.ensures.keeps c.in_ok-new.ensures.kept c.in_ok-new.ensures.homes).clean

pub change-returns-clause-adds : goal.change-returns-clause-adds
change-returns-clause-adds t c =
    (type_made c.args.written.now c.args.arena.now c.change_rows.new.arena c.intern.new.self c.args.at c.in_ok-new.new c.node.result.now c.in_ok-node.node c.as_slice.result.now c.in_ok-raw.raw.items c.as_slice-2.result.now c.in_ok-rows.rows
    c.node.ensures c.in_ok-node.ensures c.as_slice.ensures c.in_ok-raw.ensures.rows c.in_ok-raw.ensures.there c.in_ok-raw.ensures.clean c.in_ok-raw.ensures.adds
    c.as_slice-2.ensures.value c.in_ok-rows.ensures.rows c.in_ok-rows.ensures.refs c.in_ok-new.ensures.node c.in_ok-new.ensures.meaning c.in_ok-new.ensures.home c.in_ok-new.ensures.below c.in_ok-new.ensures.own_home c.in_ok-new.ensures.keeps c.in_ok-new.ensures.kept c.in_ok-new.ensures.homes).adds

pub change_fields-change-requires : goal.change_fields-change-requires
change_fields-change-requires t c =
    let own = field_item_holds (λ at. IsTrue (has (store_of c.args.arena.now) at)) c.args.fields.now c.loop-field.field-index c.field-item.result c.loop-field-test.true c.field-item.is c.requires.there in
    let kept = ap weight (c.loop-field.invariant.made.adds.kept c.field-item.result.1 own) in
    let under : weight (term_of (store_of c.args.arena.now) c.field-item.result.1) ≤ weight_of_fields (fields_by (term_of (store_of c.args.arena.now)) c.args.fields.now) =
    subst (λ (x : List ℕ × TypeRef). weight (term_of (store_of c.args.arena.now) x.1) ≤ weight_of_fields (fields_by (term_of (store_of c.args.arena.now)) c.args.fields.now)) (sym c.field-item.is)
    (field_weight (term_of (store_of c.args.arena.now)) c.args.fields.now c.loop-field.field-index c.field-item.result c.loop-field-test.true) in
    (omega (arith, kept, under, c.decreases), (there_kept (store_of c.args.arena.now) (store_of c.loop-field.arena) c.field-item.result.1 c.loop-field.invariant.made.adds.keeps own, c.loop-field.invariant.right))

pub change_fields-returns-in_err-at-clause-adds : goal.change_fields-returns-in_err-at-clause-adds
change_fields-returns-in_err-at-clause-adds t c =
    field_adds c.args.arena.now c.loop-field.arena c.change.new.arena c.args.fields.now c.loop-field.field-index c.field-item.result c.loop-field-test.true c.field-item.is c.requires.there c.loop-field.invariant.made.adds c.change.ensures.adds

pub change_fields-returns-in_err-clone-clause-adds : goal.change_fields-returns-in_err-clone-clause-adds
change_fields-returns-in_err-clone-clause-adds t c =
    field_adds c.args.arena.now c.loop-field.arena c.change.new.arena c.args.fields.now c.loop-field.field-index c.field-item.result c.loop-field-test.true c.field-item.is c.requires.there c.loop-field.invariant.made.adds c.change.ensures.adds

pub change_fields-returns-in_err-push-clause-adds : goal.change_fields-returns-in_err-push-clause-adds
change_fields-returns-in_err-push-clause-adds t c =
    field_adds c.args.arena.now c.loop-field.arena c.change.new.arena c.args.fields.now c.loop-field.field-index c.field-item.result c.loop-field-test.true c.field-item.is c.requires.there c.loop-field.invariant.made.adds c.change.ensures.adds

pub change_fields-loop-field-preserved : goal.change_fields-loop-field-preserved
change_fields-loop-field-preserved t c =
    record {
      right = c.in_ok-at.ensures.right;
      made =
          field_more c.args.written.now c.args.frozen c.args.arena.now c.loop-field.arena c.change.new.arena c.args.fields.now c.loop-field.kept.items c.push.new.self.items c.loop-field.field-index c.field-item.result c.in_ok-clone.field-0 c.in_ok-at.at
          c.loop-field-test.true c.field-item.is c.requires.there (ap (λ (m : Bool). c.args.frozen || not m) (sym c.may_be_written.ensures) ∙ c.if-not-stays.false) c.loop-field.invariant.made
          c.in_ok-at.ensures.term c.in_ok-at.ensures.there c.in_ok-at.ensures.clean c.in_ok-at.ensures.adds c.in_ok-clone.ensures.cases c.in_ok-push.ensures.items;
    }

pub change_fields-returns-clause-fields : goal.change_fields-returns-clause-fields
change_fields-returns-clause-fields t c =
    let e : c.loop-field.field-index ≡ length c.args.fields.now = omega (arith, c.loop-field-test.false, c.loop-field.auto.field-index-end) in
    ap (fields_by (term_of (store_of c.loop-field.arena))) c.of.ensures
    ∙ fields_done c.args.written.now c.args.frozen c.args.arena.now c.loop-field.arena c.args.fields.now c.loop-field.kept.items
    (subst (λ (n : ℕ). FieldsMade c.args.written.now c.args.frozen c.args.arena.now c.loop-field.arena c.args.fields.now c.loop-field.kept.items n) e c.loop-field.invariant.made)

pub change_rows-change_fields-requires : goal.change_rows-change_fields-requires
change_rows-change_fields-requires t c =
    let own = row_item_hold (λ at. IsTrue (has (store_of c.args.arena.now) at)) c.args.rows.now c.loop-row.row-index c.row-item.result c.loop-row-test.true c.row-item.is c.requires.there in
    let kept = fields_kept c.args.arena.now c.loop-row.arena _ [] c.loop-row.invariant.made.adds c.row-item.result.fields own in
    let same : weight_of_fields (fields_by (term_of (store_of c.loop-row.arena)) c.as_slice-slice.result.now) ≡ weight_of_fields (fields_by (term_of (store_of c.args.arena.now)) c.row-item.result.fields) =
    ap (λ (zs : List (List ℕ × TypeRef)). weight_of_fields (fields_by (term_of (store_of c.loop-row.arena)) zs)) c.as_slice-slice.ensures ∙ ap weight_of_fields kept in
    let under : weight_of_fields (fields_by (term_of (store_of c.args.arena.now)) c.row-item.result.fields) ≤ weight_of_rows (rows_by (term_of (store_of c.args.arena.now)) c.args.rows.now) =
    subst (λ (x : Row). weight_of_fields (fields_by (term_of (store_of c.args.arena.now)) x.fields) ≤ weight_of_rows (rows_by (term_of (store_of c.args.arena.now)) c.args.rows.now)) (sym c.row-item.is)
    (row_weight (term_of (store_of c.args.arena.now)) c.args.rows.now c.loop-row.row-index c.row-item.result c.loop-row-test.true) in
    let there =
    subst (λ (xs : List (List ℕ × TypeRef)). All (λ at. IsTrue (has (store_of c.loop-row.arena) at)) (field_types xs)) (sym c.as_slice-slice.ensures)
    (λ k d l. there_kept (store_of c.args.arena.now) (store_of c.loop-row.arena) _ c.loop-row.invariant.made.adds.keeps (own k d l)) in
    (omega (arith, same, under, c.decreases), (there, c.loop-row.invariant.right))

pub change_rows-returns-in_err-fields-clause-adds : goal.change_rows-returns-in_err-fields-clause-adds
change_rows-returns-in_err-fields-clause-adds t c =
    row_adds c.args.arena.now c.loop-row.arena c.change_fields.new.arena c.args.rows.now c.loop-row.row-index c.row-item.result c.as_slice-slice.result.now c.loop-row-test.true c.row-item.is c.as_slice-slice.ensures c.requires.there c.loop-row.invariant.made.adds c.change_fields.ensures.adds

pub change_rows-returns-in_err-push-clause-adds : goal.change_rows-returns-in_err-push-clause-adds
change_rows-returns-in_err-push-clause-adds t c =
    row_adds c.args.arena.now c.loop-row.arena c.change_fields.new.arena c.args.rows.now c.loop-row.row-index c.row-item.result c.as_slice-slice.result.now c.loop-row-test.true c.row-item.is c.as_slice-slice.ensures c.requires.there c.loop-row.invariant.made.adds c.change_fields.ensures.adds

pub change_rows-loop-row-preserved : goal.change_rows-loop-row-preserved
change_rows-loop-row-preserved t c =
    record {
      right = c.in_ok-fields.ensures.right;
      made =
          row_more c.args.written.now c.args.arena.now c.loop-row.arena c.change_fields.new.arena c.args.rows.now c.loop-row.raw.items c.push.new.self.items c.loop-row.row-index c.row-item.result c.as_slice-slice.result.now c.in_ok-fields.fields
          c.loop-row-test.true c.row-item.is c.as_slice-slice.ensures c.requires.there c.loop-row.invariant.made c.in_ok-fields.ensures.fields c.in_ok-fields.ensures.there c.in_ok-fields.ensures.clean c.in_ok-fields.ensures.adds
          c.in_ok-push.ensures.items;
    }

pub change_rows-returns-clause-rows : goal.change_rows-returns-clause-rows
change_rows-returns-clause-rows t c =
    let e : c.loop-row.row-index ≡ length c.args.rows.now = omega (arith, c.loop-row-test.false, c.loop-row.auto.row-index-end) in
    rows_done c.args.written.now c.args.arena.now c.loop-row.arena c.args.rows.now c.loop-row.raw.items
    (subst (λ (n : ℕ). RowsMade c.args.written.now c.args.arena.now c.loop-row.arena c.args.rows.now c.loop-row.raw.items n) e c.loop-row.invariant.made)
