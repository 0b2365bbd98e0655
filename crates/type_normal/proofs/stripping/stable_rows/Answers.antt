use Rattle.std.proofs.Common.{◌≡◌, ℕ, List, sym, ◌∙◌, subst}
use Rattle.std.specs.Prelude.{IsTrue, All}
use Rattle.type_arena.specs.Arena.{store_of}
use Rattle.type_arena.specs.Meaning.{term_of, fields_by}
use Rattle.type_arena.specs.Store.{has, field_types}
use Rattle.type_arena.specs.declared.node.Row.{Row}
use Rattle.type_arena.specs.declared.node.TypeRef.{TypeRef}
use Rattle.type_arena.proofs.CloneLemmas.{same_row}
use Rattle.type_normal.specs.HeapFree.{heap_free_row}
use Rattle.type_normal.proofs.ShapeFacts.{row_item_hold}
use Rattle.type_normal.proofs.RowsFacts.{kept_more, kept_same, row_test}
use Rattle.type_normal.proofs.stripping.stable_rows.Goals.{then-as_row+in_ok-clone+in_ok-push, else-as_row}
use Rattle.type_normal.proofs.stripping.stable_rows.Goals as goal

pub fields_shape-requires-clause-there : goal.fields_shape-requires-clause-there
fields_shape-requires-clause-there c =
    let e : c.as_slice.result.now ≡ c.row-item.result.fields = c.as_slice.ensures in
    subst (λ (xs : List (List ℕ × TypeRef)). All (λ at. IsTrue (has (store_of c.args.arena.now) at)) (field_types xs)) (sym e)
    (row_item_hold (λ at. IsTrue (has (store_of c.args.arena.now) at)) c.args.rows.now c.loop-row.row-index c.row-item.result c.loop-row-test.true c.row-item.is c.requires)

pub loop-row-preserved : goal.loop-row-preserved
loop-row-preserved c =
    let means = term_of (store_of c.args.arena.now) in
    let test = row_test means c.row-item.result c.as_slice.result.now c.in_ok-fields.fields c.as_row.result c.as_slice.ensures c.in_ok-fields.ensures.shape c.as_row.ensures in
    record {
      right = c.in_ok-fields.ensures.right;
      so_far = elim c.if-as_row.branch [
        | then-as_row+in_ok-clone+in_ok-push w ↦
            kept_more (λ (row : Row). heap_free_row row.frozen (fields_by means row.fields)) c.args.rows.now c.loop-row.row-index c.row-item.result c.loop-row.kept.items c.if-as_row.kept.items
            c.loop-row-test.true c.row-item.is (sym test ∙ w.if-as_row.true) c.loop-row.invariant.so_far
            (let pushed = w.in_ok-push.ensures.items in let same : w.in_ok-clone.field-0 ≡ c.row-item.result = same_row c.row-item.result w.in_ok-clone.field-0 w.in_ok-clone.ensures.cases in cc)
        | else-as_row w ↦
            kept_same (λ (row : Row). heap_free_row row.frozen (fields_by means row.fields)) c.args.rows.now c.loop-row.row-index c.row-item.result c.loop-row.kept.items c.if-as_row.kept.items
            c.loop-row-test.true c.row-item.is (sym test ∙ w.if-as_row.false) c.loop-row.invariant.so_far (cc)
      ];
    }
