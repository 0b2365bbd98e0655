use Rattle.std.proofs.Common.{◌≡◌, ℕ, not, ◌||◌, List, refl, ap, sym, ◌∙◌, subst}
use Rattle.std.specs.Prelude.{IsTrue, All}
use Rattle.type_arena.specs.Arena.{store_of}
use Rattle.type_arena.specs.Meaning.{term_of, fields_by}
use Rattle.type_arena.specs.Store.{has, field_types}
use Rattle.type_arena.specs.declared.node.Row.{Row}
use Rattle.type_arena.specs.declared.node.TypeRef.{TypeRef}
use Rattle.type_arena.proofs.CloneLemmas.{same_row}
use Rattle.type_normal.specs.HeapFree.{heap_free_row, fields_list}
use Rattle.type_normal.proofs.ShapeFacts.{row_item_hold}
use Rattle.type_normal.proofs.RowsFacts.{kept_more, kept_same, row_test}
use Rattle.type_normal.proofs.stripping.stable_rows_at.Goals.{then-stays+in_ok-clone+in_ok-push, else-stays}
use Rattle.type_normal.proofs.stripping.stable_rows_at.Goals as goal

pub fields_shape-requires-clause-there : goal.fields_shape-requires-clause-there
fields_shape-requires-clause-there c =
    subst (λ (xs : List (List ℕ × TypeRef)). All (λ at. IsTrue (has (store_of c.args.arena.now) at)) (field_types xs)) (sym c.as_slice-slice.ensures)
    (row_item_hold (λ at. IsTrue (has (store_of c.args.arena.now) at)) c.args.rows.now c.loop-row.row-index c.row-item.result c.loop-row-test.true c.row-item.is c.requires)

pub fields_list-requires-clause-there : goal.fields_list-requires-clause-there
fields_list-requires-clause-there c =
    subst (λ (xs : List (List ℕ × TypeRef)). All (λ at. IsTrue (has (store_of c.args.arena.now) at)) (field_types xs)) (sym c.as_slice-slice.ensures)
    (row_item_hold (λ at. IsTrue (has (store_of c.args.arena.now) at)) c.args.rows.now c.loop-row.row-index c.row-item.result c.loop-row-test.true c.row-item.is c.requires)

pub loop-row-preserved : goal.loop-row-preserved
loop-row-preserved c =
    let means = term_of (store_of c.args.arena.now) in
    let free = row_test means c.row-item.result c.as_slice-slice.result.now c.in_ok-fields.fields c.as_row.result c.as_slice-slice.ensures c.in_ok-fields.ensures.shape c.as_row.ensures in
    let listed : c.in_ok-listed.listed ≡ fields_list c.args.name.now (fields_by means c.row-item.result.fields) =
    c.in_ok-listed.ensures.listed ∙ ap (λ (fs : List (List ℕ × TypeRef)). fields_list c.args.name.now (fields_by means fs)) c.as_slice-slice.ensures in
    let test : c.as_row.result.heap_free || not c.in_ok-listed.listed ≡ heap_free_row c.row-item.result.frozen (fields_by means c.row-item.result.fields) || not (fields_list c.args.name.now (fields_by means c.row-item.result.fields)) =
    rw (free, listed) refl in
    record {
      right = c.in_ok-fields.ensures.right;
      listings = c.in_ok-listed.ensures.right;
      so_far = elim c.if-stays.branch [
        | then-stays+in_ok-clone+in_ok-push w ↦
            kept_more (λ (row : Row). heap_free_row row.frozen (fields_by means row.fields) || not (fields_list c.args.name.now (fields_by means row.fields))) c.args.rows.now c.loop-row.row-index c.row-item.result c.loop-row.kept.items c.if-stays.kept.items
            c.loop-row-test.true c.row-item.is (sym test ∙ w.if-stays.true) c.loop-row.invariant.so_far
            (let pushed = w.in_ok-push.ensures.items in let same : w.in_ok-clone.field-0 ≡ c.row-item.result = same_row c.row-item.result w.in_ok-clone.field-0 w.in_ok-clone.ensures.cases in cc)
        | else-stays w ↦
            kept_same (λ (row : Row). heap_free_row row.frozen (fields_by means row.fields) || not (fields_list c.args.name.now (fields_by means row.fields))) c.args.rows.now c.loop-row.row-index c.row-item.result c.loop-row.kept.items c.if-stays.kept.items
            c.loop-row-test.true c.row-item.is (sym test ∙ w.if-stays.false) c.loop-row.invariant.so_far (cc)
      ];
    }
