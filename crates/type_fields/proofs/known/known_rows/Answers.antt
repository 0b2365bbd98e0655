use Rattle.std.proofs.Common.{◌≡◌, ℕ, List, ap, sym, ◌∙◌, subst}
use Rattle.std.specs.Prelude.{IsTrue, All}
use Rattle.type_arena.specs.Arena.{store_of}
use Rattle.type_arena.specs.Meaning.{term_of, fields_by}
use Rattle.type_arena.specs.Store.{has, field_types}
use Rattle.type_arena.specs.declared.node.TypeRef.{TypeRef}
use Rattle.type_normal.specs.Rows.{has_empty}
use Rattle.type_normal.proofs.ShapeFacts.{row_item_hold}
use Rattle.type_ops.specs.Normalized.{known_ones}
use Rattle.type_ops.proofs.NormalFacts.{row_more, row_same}
use Rattle.type_fields.proofs.known.known_rows.Goals.{then-not-empty+in_ok-fields+in_ok-push, else-not-empty}
use Rattle.type_fields.proofs.known.known_rows.Goals as goal

pub has_empty-empty-requires : goal.has_empty-empty-requires
has_empty-empty-requires c =
    subst (λ (xs : List (List ℕ × TypeRef)). All (λ at. IsTrue (has (store_of c.args.arena.now) at)) (field_types xs)) (sym c.as_slice.ensures)
    (row_item_hold (λ at. IsTrue (has (store_of c.args.arena.now) at)) c.args.rows.now c.loop-row.row-index c.row-item.result c.loop-row-test.true c.row-item.is c.requires)

pub known_fields-requires : goal.known_fields-requires
known_fields-requires c =
    subst (λ (xs : List (List ℕ × TypeRef)). All (λ at. IsTrue (has (store_of c.args.arena.now) at)) (field_types xs)) (sym c.as_slice-then-not-empty.ensures)
    (row_item_hold (λ at. IsTrue (has (store_of c.args.arena.now) at)) c.args.rows.now c.loop-row.row-index c.row-item.result c.loop-row-test.true c.row-item.is c.requires)

pub loop-row-preserved : goal.loop-row-preserved
loop-row-preserved c =
    let means = term_of (store_of c.args.arena.now) in
    let empty : c.has_empty-empty.result ≡ has_empty (fields_by (term_of (store_of c.args.arena.now)) c.row-item.result.fields) =
    c.has_empty-empty.ensures ∙ ap (λ (fs : List (List ℕ × TypeRef)). has_empty (fields_by (term_of (store_of c.args.arena.now)) fs)) c.as_slice.ensures in
    elim c.if-not-empty.branch [
      | then-not-empty+in_ok-fields+in_ok-push w ↦
          row_more means c.args.rows.now c.loop-row.row-index c.row-item.result c.has_empty-empty.result w.in_ok-fields.fields c.loop-row.known.items c.if-not-empty.known.items
          c.loop-row-test.true c.row-item.is empty w.if-not-empty.true (w.in_ok-fields.ensures ∙ ap (known_ones (term_of (store_of c.args.arena.now))) w.as_slice-then-not-empty.ensures) c.loop-row.invariant
          (let pushed = w.in_ok-push.ensures.items in cc)
      | else-not-empty w ↦
          row_same means c.args.rows.now c.loop-row.row-index c.row-item.result c.has_empty-empty.result c.loop-row.known.items c.if-not-empty.known.items
          c.loop-row-test.true c.row-item.is empty w.if-not-empty.false c.loop-row.invariant (cc)
    ]
