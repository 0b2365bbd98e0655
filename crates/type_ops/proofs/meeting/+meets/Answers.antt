use Rattle.std.proofs.Common.{◌≡◌, ◌<◌, ◌≤◌, ◌∷◌, ◌++◌, [], ℕ, Bool, List, length, get_or, sym, ap, ◌∙◌, subst, arith}
use Rattle.std.specs.Prelude.{Ok, Err, is_some, IsTrue, All, Contains}
use Rattle.type_arena.specs.Arena.{home_of, store_of}
use Rattle.type_arena.specs.Meaning.{term_of, rows_by, fields_by}
use Rattle.type_arena.specs.Store.{has, field_types, row_types, refs_of}
use Rattle.type_arena.specs.declared.arena.Arena.{Arena}
use Rattle.type_arena.specs.declared.node.Node.{Node}
use Rattle.type_arena.specs.declared.node.Row.{Row}
use Rattle.type_arena.specs.declared.node.TypeRef.{TypeRef}
use Rattle.type_normal.proofs.AddsFacts.{there_kept}
use Rattle.type_normal.proofs.RowsFacts.{all_fewer}
use Rattle.type_normal.proofs.ShapeFacts.{row_item_hold, field_item_holds}
use Rattle.type_normal.specs.Growing.{given_refs}
use Rattle.type_ops.proofs.ChangeFacts.{weight, weight_of_rows, weight_of_fields, row_weight, weight_of_node}
use Rattle.type_ops.proofs.MeetFacts.{FieldsMet, RowMet, RowsMet, fields_met_begun, fields_met_more, fields_met_done, put_adds, put_there, put_weight, row_met_begun, row_met_more, row_met_done, other_adds, rows_met_begun, rows_met_more, rows_met_done, row_of_adds}
use Rattle.type_ops.proofs.MetTypeFacts.{pair_adds, TypeMet, type_met, meets_more, made_met, both_there, item_adds, typed_clean, inserted_clean, all_typed, all_inserted, field_met, field_goes, set_typed}
use Rattle.type_ops.proofs.NameFacts.{found_within, goes_within}
use Rattle.type_ops.specs.Lists.{name_place}
use Rattle.type_normal.specs.Operations.{meet}
use Rattle.type_ops.proofs.GrowFacts.{adds_failed, fields_kept, all_there_on}
use Rattle.type_ops.proofs.ListFacts.{no_items}
use Rattle.type_ops.proofs.meeting.+meets.Goals as goal

pub meet_types-returns-in-Some-clause-term : goal.meet_types-returns-in-Some-clause-term
meet_types-returns-in-Some-clause-term t c =
    (c.requires.right c.args.pair c.in-Some.met.now (sym c.in-Some.ensures.value)).means

pub meet_types-returns-in-Some-clause-clean : goal.meet_types-returns-in-Some-clause-clean
meet_types-returns-in-Some-clause-clean t c =
    (c.requires.right c.args.pair c.in-Some.met.now (sym c.in-Some.ensures.value)).clean

pub meet_types-meet_rows-requires : goal.meet_types-meet_rows-requires
meet_types-meet_rows-requires t c =
    let whole : c.as_slice.result.now ≡ c.node.result.now.rows = c.as_slice.ensures ∙ ap (λ (n : Node). n.rows) c.in_ok-a.ensures in
    let other : c.as_slice-2.result.now ≡ c.node-2.result.now.rows = c.as_slice-2.ensures ∙ ap (λ (n : Node). n.rows) c.in_ok-b.ensures in
    let same : weight_of_rows (rows_by (term_of (store_of c.args.arena.now)) c.as_slice.result.now) ≡ weight_of_rows (rows_by (term_of (store_of c.args.arena.now)) c.node.result.now.rows) = ap (λ (zs : List Row). weight_of_rows (rows_by (term_of (store_of c.args.arena.now)) zs)) whole in
    let node = weight_of_node (store_of c.args.arena.now) c.args.arena.now.sound c.args.pair.first c.node.result.now c.node.ensures in
    let first =
    subst (λ (xs : List Row). All (λ at. IsTrue (has (store_of c.args.arena.now) at)) (row_types xs)) (sym whole)
    (c.args.arena.now.sound.there c.args.pair.first c.node.result.now c.node.ensures) in
    let second =
    subst (λ (xs : List Row). All (λ at. IsTrue (has (store_of c.args.arena.now) at)) (row_types xs)) (sym other)
    (c.args.arena.now.sound.there c.args.pair.second c.node-2.result.now c.node-2.ensures) in
    (omega (arith, same, node, c.decreases), (first, (second, c.requires.right)))

pub meet_types-returns-in_err-raw-clause-adds : goal.meet_types-returns-in_err-raw-clause-adds
meet_types-returns-in_err-raw-clause-adds t c =
    pair_adds c.args.arena.now c.meet_rows.new.arena c.args.pair.first c.args.pair.second c.node.result.now c.node-2.result.now c.in_ok-a.a c.in_ok-b.b c.as_slice.result.now c.as_slice-2.result.now c.node.ensures c.node-2.ensures c.in_ok-a.ensures c.in_ok-b.ensures c.as_slice.ensures c.as_slice-2.ensures c.meet_rows.ensures.adds

pub meet_types-returns-in_err-rows-clause-adds : goal.meet_types-returns-in_err-rows-clause-adds
meet_types-returns-in_err-rows-clause-adds t c =
    pair_adds c.args.arena.now c.meet_rows.new.arena c.args.pair.first c.args.pair.second c.node.result.now c.node-2.result.now c.in_ok-a.a c.in_ok-b.b c.as_slice.result.now c.as_slice-2.result.now c.node.ensures c.node-2.ensures c.in_ok-a.ensures c.in_ok-b.ensures c.as_slice.ensures c.as_slice-2.ensures c.meet_rows.ensures.adds

pub meet_types-returns-in_err-node-clause-adds : goal.meet_types-returns-in_err-node-clause-adds
meet_types-returns-in_err-node-clause-adds t c =
    pair_adds c.args.arena.now c.meet_rows.new.arena c.args.pair.first c.args.pair.second c.node.result.now c.node-2.result.now c.in_ok-a.a c.in_ok-b.b c.as_slice.result.now c.as_slice-2.result.now c.node.ensures c.node-2.ensures c.in_ok-a.ensures c.in_ok-b.ensures c.as_slice.ensures c.as_slice-2.ensures c.meet_rows.ensures.adds

pub meet_types-intern-requires : goal.meet_types-intern-requires
meet_types-intern-requires t c =
    subst (λ (n : Node). All (λ at. IsTrue (has (store_of c.meet_rows.new.arena) at)) (refs_of n)) (sym c.in_ok-node.ensures)
    (all_fewer (λ at. IsTrue (has (store_of c.meet_rows.new.arena) at)) (row_types c.in_ok-raw.raw.items) (row_types c.in_ok-rows.rows)
    (λ child k. subst (λ (zs : List Row). Contains (row_types zs) child) c.as_slice-3.ensures.value (c.in_ok-rows.ensures.refs child k)) c.in_ok-raw.ensures.there)

pub meet_types-returns-in_err-met-clause-adds : goal.meet_types-returns-in_err-met-clause-adds
meet_types-returns-in_err-met-clause-adds t c =
    adds_failed c.args.arena.now c.meet_rows.new.arena c.intern.new.self (c.args.pair.first ∷ c.args.pair.second ∷ [])
    (both_there (store_of c.args.arena.now) c.args.pair c.requires.first c.requires.second)
    (pair_adds c.args.arena.now c.meet_rows.new.arena c.args.pair.first c.args.pair.second c.node.result.now c.node-2.result.now c.in_ok-a.a c.in_ok-b.b c.as_slice.result.now c.as_slice-2.result.now c.node.ensures c.node-2.ensures c.in_ok-a.ensures c.in_ok-b.ensures c.as_slice.ensures c.as_slice-2.ensures c.meet_rows.ensures.adds)
    c.in_err-met.ensures.below c.in_err-met.ensures.own_home c.in_err-met.ensures.err

pub meet_types-returns-in_err-insert-clause-adds : goal.meet_types-returns-in_err-insert-clause-adds
meet_types-returns-in_err-insert-clause-adds t c =
    (type_met c.args.arena.now c.meet_rows.new.arena c.intern.new.self c.args.pair c.in_ok-met.met c.node.result.now c.node-2.result.now c.in_ok-a.a c.in_ok-b.b c.in_ok-node.node c.as_slice.result.now c.as_slice-2.result.now c.in_ok-raw.raw.items c.as_slice-3.result.now c.in_ok-rows.rows
    c.node.ensures c.node-2.ensures c.in_ok-a.ensures c.in_ok-b.ensures c.as_slice.ensures c.as_slice-2.ensures c.in_ok-raw.ensures.rows c.in_ok-raw.ensures.there c.in_ok-raw.ensures.clean c.in_ok-raw.ensures.adds
    c.as_slice-3.ensures.value c.in_ok-rows.ensures.rows c.in_ok-rows.ensures.refs c.in_ok-node.ensures c.in_ok-met.ensures.node c.in_ok-met.ensures.meaning c.in_ok-met.ensures.home c.in_ok-met.ensures.below c.in_ok-met.ensures.own_home c.in_ok-met.ensures.keeps c.in_ok-met.ensures.kept c.in_ok-met.ensures.homes).adds

pub meet_types-returns-clause-term : goal.meet_types-returns-clause-term
meet_types-returns-clause-term t c =
    (type_met c.args.arena.now c.meet_rows.new.arena c.intern.new.self c.args.pair c.in_ok-met.met c.node.result.now c.node-2.result.now c.in_ok-a.a c.in_ok-b.b c.in_ok-node.node c.as_slice.result.now c.as_slice-2.result.now c.in_ok-raw.raw.items c.as_slice-3.result.now c.in_ok-rows.rows
    c.node.ensures c.node-2.ensures c.in_ok-a.ensures c.in_ok-b.ensures c.as_slice.ensures c.as_slice-2.ensures c.in_ok-raw.ensures.rows c.in_ok-raw.ensures.there c.in_ok-raw.ensures.clean c.in_ok-raw.ensures.adds
    c.as_slice-3.ensures.value c.in_ok-rows.ensures.rows c.in_ok-rows.ensures.refs c.in_ok-node.ensures c.in_ok-met.ensures.node c.in_ok-met.ensures.meaning c.in_ok-met.ensures.home c.in_ok-met.ensures.below c.in_ok-met.ensures.own_home c.in_ok-met.ensures.keeps c.in_ok-met.ensures.kept c.in_ok-met.ensures.homes).means

pub meet_types-returns-clause-right : goal.meet_types-returns-clause-right
meet_types-returns-clause-right t c =
    let made : TypeMet c.args.arena.now c.intern.new.self c.args.pair c.in_ok-met.met = type_met c.args.arena.now c.meet_rows.new.arena c.intern.new.self c.args.pair c.in_ok-met.met c.node.result.now c.node-2.result.now c.in_ok-a.a c.in_ok-b.b c.in_ok-node.node c.as_slice.result.now c.as_slice-2.result.now c.in_ok-raw.raw.items c.as_slice-3.result.now c.in_ok-rows.rows
    c.node.ensures c.node-2.ensures c.in_ok-a.ensures c.in_ok-b.ensures c.as_slice.ensures c.as_slice-2.ensures c.in_ok-raw.ensures.rows c.in_ok-raw.ensures.there c.in_ok-raw.ensures.clean c.in_ok-raw.ensures.adds
    c.as_slice-3.ensures.value c.in_ok-rows.ensures.rows c.in_ok-rows.ensures.refs c.in_ok-node.ensures c.in_ok-met.ensures.node c.in_ok-met.ensures.meaning c.in_ok-met.ensures.home c.in_ok-met.ensures.below c.in_ok-met.ensures.own_home c.in_ok-met.ensures.keeps c.in_ok-met.ensures.kept c.in_ok-met.ensures.homes in
    meets_more c.meet_rows.new.arena c.intern.new.self _ (c.in_ok-met.met ∷ []) c.meet_rows.new.known c.insert.new.self c.args.pair c.in_ok-met.met
    (record { below = c.in_ok-met.ensures.below; home = c.in_ok-met.ensures.own_home; keeps = c.in_ok-met.ensures.keeps; kept = c.in_ok-met.ensures.kept; homes = c.in_ok-met.ensures.homes })
    c.in_ok-raw.ensures.right
    (made_met c.args.arena.now c.intern.new.self c.args.pair c.in_ok-met.met made c.requires.first c.requires.second (ap is_some c.in_ok-met.ensures.node))
    c.in_ok-insert.ensures.updates.0

pub meet_types-returns-clause-clean : goal.meet_types-returns-clause-clean
meet_types-returns-clause-clean t c =
    (type_met c.args.arena.now c.meet_rows.new.arena c.intern.new.self c.args.pair c.in_ok-met.met c.node.result.now c.node-2.result.now c.in_ok-a.a c.in_ok-b.b c.in_ok-node.node c.as_slice.result.now c.as_slice-2.result.now c.in_ok-raw.raw.items c.as_slice-3.result.now c.in_ok-rows.rows
    c.node.ensures c.node-2.ensures c.in_ok-a.ensures c.in_ok-b.ensures c.as_slice.ensures c.as_slice-2.ensures c.in_ok-raw.ensures.rows c.in_ok-raw.ensures.there c.in_ok-raw.ensures.clean c.in_ok-raw.ensures.adds
    c.as_slice-3.ensures.value c.in_ok-rows.ensures.rows c.in_ok-rows.ensures.refs c.in_ok-node.ensures c.in_ok-met.ensures.node c.in_ok-met.ensures.meaning c.in_ok-met.ensures.home c.in_ok-met.ensures.below c.in_ok-met.ensures.own_home c.in_ok-met.ensures.keeps c.in_ok-met.ensures.kept c.in_ok-met.ensures.homes).clean

pub meet_types-returns-clause-adds : goal.meet_types-returns-clause-adds
meet_types-returns-clause-adds t c =
    (type_met c.args.arena.now c.meet_rows.new.arena c.intern.new.self c.args.pair c.in_ok-met.met c.node.result.now c.node-2.result.now c.in_ok-a.a c.in_ok-b.b c.in_ok-node.node c.as_slice.result.now c.as_slice-2.result.now c.in_ok-raw.raw.items c.as_slice-3.result.now c.in_ok-rows.rows
    c.node.ensures c.node-2.ensures c.in_ok-a.ensures c.in_ok-b.ensures c.as_slice.ensures c.as_slice-2.ensures c.in_ok-raw.ensures.rows c.in_ok-raw.ensures.there c.in_ok-raw.ensures.clean c.in_ok-raw.ensures.adds
    c.as_slice-3.ensures.value c.in_ok-rows.ensures.rows c.in_ok-rows.ensures.refs c.in_ok-node.ensures c.in_ok-met.ensures.node c.in_ok-met.ensures.meaning c.in_ok-met.ensures.home c.in_ok-met.ensures.below c.in_ok-met.ensures.own_home c.in_ok-met.ensures.keeps c.in_ok-met.ensures.kept c.in_ok-met.ensures.homes).adds

pub meet_rows-meet_row-requires : goal.meet_rows-meet_row-requires
meet_rows-meet_row-requires t c =
    let own = row_item_hold (λ at. IsTrue (has (store_of c.args.arena.now) at)) c.args.rows.now c.loop-row.row-index c.row-item.result c.loop-row-test.true c.row-item.is c.requires.first in
    let kept = ap weight_of_fields (fields_kept c.args.arena.now c.loop-row.arena _ [] c.loop-row.invariant.made.adds c.row-item.result.fields own) in
    let under : weight_of_fields (fields_by (term_of (store_of c.args.arena.now)) c.row-item.result.fields) ≤ weight_of_rows (rows_by (term_of (store_of c.args.arena.now)) c.args.rows.now) =
    subst (λ (x : Row). weight_of_fields (fields_by (term_of (store_of c.args.arena.now)) x.fields) ≤ weight_of_rows (rows_by (term_of (store_of c.args.arena.now)) c.args.rows.now)) (sym c.row-item.is)
    (row_weight (term_of (store_of c.args.arena.now)) c.args.rows.now c.loop-row.row-index c.row-item.result c.loop-row-test.true) in (
      omega (arith, kept, under, c.decreases),
      (
        (λ k d l. there_kept (store_of c.args.arena.now) (store_of c.loop-row.arena) _ c.loop-row.invariant.made.adds.keeps (own k d l)),
        (
          (λ k d l. there_kept (store_of c.args.arena.now) (store_of c.loop-row.arena) _ c.loop-row.invariant.made.adds.keeps (c.requires.second k d l)),
          (c.loop-row.invariant.made.there, c.loop-row.invariant.right),
        ),
      ),
    )

pub meet_rows-returns-in_err-meet_row-clause-adds : goal.meet_rows-returns-in_err-meet_row-clause-adds
meet_rows-returns-in_err-meet_row-clause-adds t c =
    row_of_adds c.args.arena.now c.loop-row.arena c.meet_row.new.arena c.args.rows.now c.args.others.now c.loop-row.raw.items c.loop-row.row-index c.row-item.result c.loop-row-test.true c.row-item.is c.requires.first c.requires.second c.loop-row.invariant.made c.meet_row.ensures.adds

pub meet_rows-loop-row-init : goal.meet_rows-loop-row-init
meet_rows-loop-row-init t c =
    record { right = c.requires.right; made = subst (λ (zs : List Row). RowsMet c.args.arena.now c.args.arena.now c.args.rows.now c.args.others.now zs 0) (sym c.new-raw.ensures.items) (rows_met_begun c.args.arena.now c.args.rows.now c.args.others.now) }

pub meet_rows-loop-row-preserved : goal.meet_rows-loop-row-preserved
meet_rows-loop-row-preserved t c =
    record {
      right = c.in_ok-meet_row.ensures.right;
      made =
          rows_met_more c.args.arena.now c.loop-row.arena c.meet_row.new.arena c.args.rows.now c.args.others.now c.loop-row.raw.items c.meet_row.new.raw.items c.loop-row.row-index c.row-item.result c.loop-row-test.true c.row-item.is
          c.requires.first c.requires.second c.loop-row.invariant.made c.in_ok-meet_row.ensures.rows c.in_ok-meet_row.ensures.there c.in_ok-meet_row.ensures.clean c.in_ok-meet_row.ensures.adds;
    }

pub meet_rows-returns-clause-rows : goal.meet_rows-returns-clause-rows
meet_rows-returns-clause-rows t c =
    let e : c.loop-row.row-index ≡ length c.args.rows.now = omega (arith, c.loop-row-test.false, c.loop-row.auto.row-index-end) in
    rows_met_done c.args.arena.now c.loop-row.arena c.args.rows.now c.args.others.now c.loop-row.raw.items
    (subst (λ (n : ℕ). RowsMet c.args.arena.now c.loop-row.arena c.args.rows.now c.args.others.now c.loop-row.raw.items n) e c.loop-row.invariant.made)

pub meet_row-meet_fields-requires : goal.meet_row-meet_fields-requires
meet_row-meet_fields-requires t c =
    let kept = fields_kept c.args.arena.now c.loop-other.arena _ [] c.loop-other.invariant.made.adds c.args.row.now.fields c.requires.first in
    let same : weight_of_fields (fields_by (term_of (store_of c.loop-other.arena)) c.as_slice-fields.result.now) ≡ weight_of_fields (fields_by (term_of (store_of c.args.arena.now)) c.args.row.now.fields) =
    ap (λ (zs : List (List ℕ × TypeRef)). weight_of_fields (fields_by (term_of (store_of c.loop-other.arena)) zs)) c.as_slice-fields.ensures ∙ ap weight_of_fields kept in
    let other = row_item_hold (λ at. IsTrue (has (store_of c.args.arena.now) at)) c.args.others.now c.loop-other.other-index c.other-item.result c.loop-other-test.true c.other-item.is c.requires.second in
    let first =
    subst (λ (xs : List (List ℕ × TypeRef)). All (λ at. IsTrue (has (store_of c.loop-other.arena) at)) (field_types xs)) (sym c.as_slice-fields.ensures)
    (λ k d l. there_kept (store_of c.args.arena.now) (store_of c.loop-other.arena) _ c.loop-other.invariant.made.adds.keeps (c.requires.first k d l)) in
    let second =
    subst (λ (xs : List (List ℕ × TypeRef)). All (λ at. IsTrue (has (store_of c.loop-other.arena) at)) (field_types xs)) (sym c.as_slice-slice.ensures)
    (λ k d l. there_kept (store_of c.args.arena.now) (store_of c.loop-other.arena) _ c.loop-other.invariant.made.adds.keeps (other k d l)) in
    (omega (arith, same, c.decreases), (first, (second, c.loop-other.invariant.right)))

pub meet_row-returns-in_err-met-clause-adds : goal.meet_row-returns-in_err-met-clause-adds
meet_row-returns-in_err-met-clause-adds t c =
    other_adds c.args.arena.now c.loop-other.arena c.meet_fields.new.arena c.args.row.now c.args.others.now c.args.raw.now.items c.loop-other.raw.items c.loop-other.other-index c.other-item.result c.as_slice-fields.result.now c.as_slice-slice.result.now c.loop-other-test.true c.other-item.is c.as_slice-fields.ensures c.as_slice-slice.ensures c.requires.first c.requires.second c.loop-other.invariant.made c.meet_fields.ensures.adds

pub meet_row-returns-in_err-push-clause-adds : goal.meet_row-returns-in_err-push-clause-adds
meet_row-returns-in_err-push-clause-adds t c =
    other_adds c.args.arena.now c.loop-other.arena c.meet_fields.new.arena c.args.row.now c.args.others.now c.args.raw.now.items c.loop-other.raw.items c.loop-other.other-index c.other-item.result c.as_slice-fields.result.now c.as_slice-slice.result.now c.loop-other-test.true c.other-item.is c.as_slice-fields.ensures c.as_slice-slice.ensures c.requires.first c.requires.second c.loop-other.invariant.made c.meet_fields.ensures.adds

pub meet_row-loop-other-init : goal.meet_row-loop-other-init
meet_row-loop-other-init t c =
    record { right = c.requires.right; made = row_met_begun c.args.arena.now c.args.row.now c.args.others.now c.args.raw.now.items c.requires.before }

pub meet_row-loop-other-preserved : goal.meet_row-loop-other-preserved
meet_row-loop-other-preserved t c =
    record {
      right = c.in_ok-met.ensures.right;
      made =
          row_met_more c.args.arena.now c.loop-other.arena c.meet_fields.new.arena c.args.row.now c.args.others.now c.args.raw.now.items c.loop-other.raw.items c.push.new.self.items c.loop-other.other-index c.other-item.result c.as_slice-fields.result.now c.as_slice-slice.result.now c.in_ok-met.met
          c.loop-other-test.true c.other-item.is c.as_slice-fields.ensures c.as_slice-slice.ensures c.requires.first c.requires.second c.loop-other.invariant.made c.in_ok-met.ensures.fields c.in_ok-met.ensures.there c.in_ok-met.ensures.clean c.in_ok-met.ensures.adds c.in_ok-push.ensures.items;
    }

pub meet_row-returns-clause-rows : goal.meet_row-returns-clause-rows
meet_row-returns-clause-rows t c =
    let e : c.loop-other.other-index ≡ length c.args.others.now = omega (arith, c.loop-other-test.false, c.loop-other.auto.other-index-end) in
    row_met_done c.args.arena.now c.loop-other.arena c.args.row.now c.args.others.now c.args.raw.now.items c.loop-other.raw.items
    (subst (λ (n : ℕ). RowMet c.args.arena.now c.loop-other.arena c.args.row.now c.args.others.now c.args.raw.now.items c.loop-other.raw.items n) e c.loop-other.invariant.made)

pub meet_fields-loop-field-init : goal.meet_fields-loop-field-init
meet_fields-loop-field-init t c =
    record { right = c.requires.right; made = fields_met_begun c.args.arena.now c.args.fields.now c.args.others.now c.in_ok-rest.rest.items c.in_ok-met.met.items c.in_ok-rest.ensures c.in_ok-met.ensures c.requires.first c.requires.second }

pub meet_fields-put_field-requires : goal.meet_fields-put_field-requires
meet_fields-put_field-requires t c =
    let under = put_weight c.args.arena.now c.loop-field.arena c.args.fields.now c.args.others.now c.loop-field.rest.items c.loop-field.met.items c.pop.new.self.items c.in-Some.field c.in-Some.ensures.items c.loop-field.invariant.made in
    let own = put_there c.args.arena.now c.loop-field.arena c.args.fields.now c.args.others.now c.loop-field.rest.items c.loop-field.met.items c.pop.new.self.items c.in-Some.field c.in-Some.ensures.items c.loop-field.invariant.made in
    (omega (arith, under, c.decreases), (own, (c.loop-field.invariant.made.there, c.loop-field.invariant.right)))

pub meet_fields-returns-in_err-put_field-clause-adds : goal.meet_fields-returns-in_err-put_field-clause-adds
meet_fields-returns-in_err-put_field-clause-adds t c =
    put_adds c.args.arena.now c.loop-field.arena c.put_field.new.arena c.args.fields.now c.args.others.now c.loop-field.rest.items c.loop-field.met.items c.pop.new.self.items c.in-Some.field c.in-Some.ensures.items c.loop-field.invariant.made c.put_field.ensures.adds

pub meet_fields-loop-field-preserved : goal.meet_fields-loop-field-preserved
meet_fields-loop-field-preserved t c =
    record {
      right = c.in_ok-put_field.ensures.right;
      made =
          fields_met_more c.args.arena.now c.loop-field.arena c.put_field.new.arena c.args.fields.now c.args.others.now c.loop-field.rest.items c.loop-field.met.items c.pop.new.self.items c.put_field.new.met.items c.in-Some.field c.in-Some.ensures.items c.loop-field.invariant.made
          c.in_ok-put_field.ensures.fields c.in_ok-put_field.ensures.there c.in_ok-put_field.ensures.clean c.in_ok-put_field.ensures.adds;
    }

pub meet_fields-returns-clause-fields : goal.meet_fields-returns-clause-fields
meet_fields-returns-clause-fields t c =
    let none : c.loop-field.rest.items ≡ [] = no_items c.loop-field.rest.items (omega (arith, c.in_default.ensures.cases.0, c.loop-field.rest.ok.0)) in
    ap (fields_by (term_of (store_of c.loop-field.arena))) c.of.ensures
    ∙ fields_met_done c.args.arena.now c.loop-field.arena c.args.fields.now c.args.others.now c.loop-field.rest.items c.loop-field.met.items none c.loop-field.invariant.made

pub put_field-index-requires : goal.put_field-index-requires
put_field-index-requires t c =
    let place : Ok c.in-Ok.at ≡ name_place c.args.field.0 c.args.met.now.items = c.in-Ok.ensures ∙ ap (name_place c.args.field.0) c.as_slice.ensures.value in
    let within : c.in-Ok.at < length c.args.met.now.items = found_within c.args.field.0 c.args.met.now.items c.in-Ok.at place in
    omega (arith, within, c.args.met.now.ok.0)

pub put_field-index_mut-requires : goal.put_field-index_mut-requires
put_field-index_mut-requires t c =
    let place : Ok c.in-Ok.at ≡ name_place c.args.field.0 c.args.met.now.items = c.in-Ok.ensures ∙ ap (name_place c.args.field.0) c.as_slice.ensures.value in
    let within : c.in-Ok.at < length c.args.met.now.items = found_within c.args.field.0 c.args.met.now.items c.in-Ok.at place in
    omega (arith, within, c.args.met.now.ok.0)

pub put_field-meet_types-requires : goal.put_field-meet_types-requires
put_field-meet_types-requires t c =
    let place : Ok c.in-Ok.at ≡ name_place c.args.field.0 c.args.met.now.items = c.in-Ok.ensures ∙ ap (name_place c.args.field.0) c.as_slice.ensures.value in
    let within : c.in-Ok.at < length c.args.met.now.items = found_within c.args.field.0 c.args.met.now.items c.in-Ok.at place in
    let second = field_item_holds (λ at. IsTrue (has (store_of c.args.arena.now) at)) c.args.met.now.items c.in-Ok.at c.index.result.now within c.index.ensures c.requires.there in
    (omega (arith, c.decreases), (c.requires.own, (second, c.requires.right)))

pub put_field-returns-in_err-both-in-Ok-clause-adds : goal.put_field-returns-in_err-both-in-Ok-clause-adds
put_field-returns-in_err-both-in-Ok-clause-adds t c =
    let place : Ok c.in-Ok.at ≡ name_place c.args.field.0 c.args.met.now.items = c.in-Ok.ensures ∙ ap (name_place c.args.field.0) c.as_slice.ensures.value in
    let within : c.in-Ok.at < length c.args.met.now.items = found_within c.args.field.0 c.args.met.now.items c.in-Ok.at place in
    item_adds c.args.arena.now c.meet_types.new.arena c.args.field.1 c.args.met.now.items c.in-Ok.at c.index.result.now within c.index.ensures c.meet_types.ensures.adds

pub put_field-returns-in_ok-both-in-Ok-clause-adds : goal.put_field-returns-in_ok-both-in-Ok-clause-adds
put_field-returns-in_ok-both-in-Ok-clause-adds t c =
    let place : Ok c.in-Ok.at ≡ name_place c.args.field.0 c.args.met.now.items = c.in-Ok.ensures ∙ ap (name_place c.args.field.0) c.as_slice.ensures.value in
    let within : c.in-Ok.at < length c.args.met.now.items = found_within c.args.field.0 c.args.met.now.items c.in-Ok.at place in
    item_adds c.args.arena.now c.meet_types.new.arena c.args.field.1 c.args.met.now.items c.in-Ok.at c.index.result.now within c.index.ensures c.meet_types.ensures.adds

pub put_field-returns-in_ok-both-in-Ok-clause-fields : goal.put_field-returns-in_ok-both-in-Ok-clause-fields
put_field-returns-in_ok-both-in-Ok-clause-fields t c =
    let place : Ok c.in-Ok.at ≡ name_place c.args.field.0 c.args.met.now.items = c.in-Ok.ensures ∙ ap (name_place c.args.field.0) c.as_slice.ensures.value in
    let within : c.in-Ok.at < length c.args.met.now.items = found_within c.args.field.0 c.args.met.now.items c.in-Ok.at place in
    let is : c.index_mut.result.now ≡ get_or c.args.met.now.items c.in-Ok.at c.index_mut.result.now = c.index_mut.ensures.value in
    let set = set_typed c.args.met.now.items c.in-Ok.at c.index_mut.result.now c.in_ok-both-in-Ok.both within is in
    let other : term_of (store_of c.args.arena.now) c.index.result.now.1 ≡ term_of (store_of c.args.arena.now) (get_or c.args.met.now.items c.in-Ok.at c.index.result.now).1 =
    ap (λ (x : List ℕ × TypeRef). term_of (store_of c.args.arena.now) x.1) c.index.ensures in
    field_met c.args.arena.now c.meet_types.new.arena _ c.args.field c.args.met.now.items _ c.in-Ok.at c.index.result.now c.in_ok-both-in-Ok.both place within c.requires.own c.requires.there c.in_ok-both-in-Ok.ensures.adds
    (c.in_ok-both-in-Ok.ensures.term ∙ ap (meet (term_of (store_of c.args.arena.now) c.args.field.1)) other) set

pub put_field-returns-in_ok-both-in-Ok-clause-there : goal.put_field-returns-in_ok-both-in-Ok-clause-there
put_field-returns-in_ok-both-in-Ok-clause-there t c =
    let place : Ok c.in-Ok.at ≡ name_place c.args.field.0 c.args.met.now.items = c.in-Ok.ensures ∙ ap (name_place c.args.field.0) c.as_slice.ensures.value in
    let within : c.in-Ok.at < length c.args.met.now.items = found_within c.args.field.0 c.args.met.now.items c.in-Ok.at place in
    let is : c.index_mut.result.now ≡ get_or c.args.met.now.items c.in-Ok.at c.index_mut.result.now = c.index_mut.ensures.value in
    let set = set_typed c.args.met.now.items c.in-Ok.at c.index_mut.result.now c.in_ok-both-in-Ok.both within is in
    all_typed (λ at. IsTrue (has (store_of c.meet_types.new.arena) at)) c.args.met.now.items _ c.in-Ok.at c.in_ok-both-in-Ok.both set
    (all_there_on (store_of c.args.arena.now) (store_of c.meet_types.new.arena) (field_types c.args.met.now.items) c.requires.there c.in_ok-both-in-Ok.ensures.adds.keeps) c.in_ok-both-in-Ok.ensures.there

pub put_field-returns-in_ok-both-in-Ok-clause-clean : goal.put_field-returns-in_ok-both-in-Ok-clause-clean
put_field-returns-in_ok-both-in-Ok-clause-clean t c =
    let place : Ok c.in-Ok.at ≡ name_place c.args.field.0 c.args.met.now.items = c.in-Ok.ensures ∙ ap (name_place c.args.field.0) c.as_slice.ensures.value in
    let within : c.in-Ok.at < length c.args.met.now.items = found_within c.args.field.0 c.args.met.now.items c.in-Ok.at place in
    let is : c.index_mut.result.now ≡ get_or c.args.met.now.items c.in-Ok.at c.index_mut.result.now = c.index_mut.ensures.value in
    let set = set_typed c.args.met.now.items c.in-Ok.at c.index_mut.result.now c.in_ok-both-in-Ok.both within is in
    typed_clean c.args.arena.now c.meet_types.new.arena c.args.field.1 c.args.met.now.items _ c.in-Ok.at c.index.result.now c.in_ok-both-in-Ok.both within c.index.ensures set
    c.requires.there c.in_ok-both-in-Ok.ensures.adds c.in_ok-both-in-Ok.ensures.clean

pub put_field-insert-requires : goal.put_field-insert-requires
put_field-insert-requires t c =
    let place : Err c.in-Err.at ≡ name_place c.args.field.0 c.args.met.now.items = c.in-Err.ensures ∙ ap (name_place c.args.field.0) c.as_slice.ensures.value in
    let within : c.in-Err.at ≤ length c.args.met.now.items = goes_within c.args.field.0 c.args.met.now.items c.in-Err.at place in
    omega (arith, within, c.args.met.now.ok.0)

pub put_field-returns-in_ok-insert-in-Err-clause-fields : goal.put_field-returns-in_ok-insert-in-Err-clause-fields
put_field-returns-in_ok-insert-in-Err-clause-fields t c =
    let place : Err c.in-Err.at ≡ name_place c.args.field.0 c.args.met.now.items = c.in-Err.ensures ∙ ap (name_place c.args.field.0) c.as_slice.ensures.value in
    field_goes c.args.arena.now c.args.field c.args.met.now.items c.insert.new.self.items c.in-Err.at place c.in_ok-insert-in-Err.ensures.items

pub put_field-returns-in_ok-insert-in-Err-clause-there : goal.put_field-returns-in_ok-insert-in-Err-clause-there
put_field-returns-in_ok-insert-in-Err-clause-there t c =
    all_inserted (λ at. IsTrue (has (store_of c.args.arena.now) at)) c.args.met.now.items c.insert.new.self.items c.in-Err.at c.args.field c.in_ok-insert-in-Err.ensures.items c.requires.there c.requires.own

pub put_field-returns-in_ok-insert-in-Err-clause-clean : goal.put_field-returns-in_ok-insert-in-Err-clause-clean
put_field-returns-in_ok-insert-in-Err-clause-clean t c =
    inserted_clean c.args.arena.now c.args.field c.args.met.now.items c.insert.new.self.items c.in-Err.at c.in_ok-insert-in-Err.ensures.items c.requires.own c.requires.there
