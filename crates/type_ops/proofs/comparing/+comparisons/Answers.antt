use Rattle.std.proofs.Common.{◌≡◌, ◌<◌, ◌≤◌, ℕ, List, length, get_or, sym, ◌∙◌, subst, arith}
use Rattle.std.specs.Prelude.{IsTrue, All, min}
use Rattle.type_arena.specs.Arena.{store_of}
use Rattle.type_arena.specs.Meaning.{term_of, rank}
use Rattle.type_arena.specs.Store.{has, field_types, row_types}
use Rattle.type_arena.specs.declared.node.Row.{Row}
use Rattle.type_arena.specs.declared.node.TypeRef.{TypeRef}
use Rattle.type_normal.specs.Shape.{ranks}
use Rattle.type_normal.proofs.ShapeFacts.{field_holds_at, field_rank_at, row_item_hold, row_item_rank, node_rank_at}
use Rattle.type_ops.proofs.CompareFacts.{rows_end, types_end, types_differ_free, types_tie_free, same_types, compared_more}
use Rattle.type_ops.proofs.comparing.+comparisons.Goals as goal

pub compare_field_types-compare_types-requires : goal.compare_field_types-compare_types-requires
compare_field_types-compare_types-requires t c =
    let l : c.loop-i.i < length c.args.fields.now = omega (arith, c.loop-i-test.true, c.min-i-end.ensures) in
    let m : c.loop-i.i < length c.args.others.now = omega (arith, c.loop-i-test.true, c.min-i-end.ensures) in
    let r : rank (store_of c.args.arena.now) (get_or c.args.fields.now c.loop-i.i c.index-fields-i.result).1 < ranks (store_of c.args.arena.now) (field_types c.args.fields.now) = field_rank_at (store_of c.args.arena.now) c.args.fields.now c.loop-i.i c.index-fields-i.result l in
    let first = field_holds_at (λ at. IsTrue (has (store_of c.args.arena.now) at)) c.args.fields.now c.loop-i.i c.index-fields-i.result l c.requires.first in
    let second = field_holds_at (λ at. IsTrue (has (store_of c.args.arena.now) at)) c.args.others.now c.loop-i.i c.index-others-i.result m c.requires.second in
    (omega (arith, r, c.decreases), (first, (second, c.loop-i.invariant.right)))

pub compare_field_types-returns-clause-order : goal.compare_field_types-returns-clause-order
compare_field_types-returns-clause-order t c =
    let e : c.loop-i.i ≡ min (length c.args.fields.now) (length c.args.others.now) = omega (arith, c.loop-i-test.false, c.min-i-end.ensures, c.loop-i.auto.i-end) in
    c.cmp.ensures ∙ types_end (term_of (store_of c.args.arena.now)) c.args.fields.now c.args.others.now c.loop-i.i e c.loop-i.invariant.so_far

pub compare_row_lists-compare_rows-requires : goal.compare_row_lists-compare_rows-requires
compare_row_lists-compare_rows-requires t c =
    let l : c.loop-i.i < length c.args.rows.now = omega (arith, c.loop-i-test.true, c.min-i-end.ensures) in
    let m : c.loop-i.i < length c.args.others.now = omega (arith, c.loop-i-test.true, c.min-i-end.ensures) in
    let r : ranks (store_of c.args.arena.now) (field_types c.index-rows-i.result.fields) ≤ ranks (store_of c.args.arena.now) (row_types c.args.rows.now) = row_item_rank (store_of c.args.arena.now) c.args.rows.now c.loop-i.i c.index-rows-i.result l c.index-rows-i.is in
    let first = row_item_hold (λ at. IsTrue (has (store_of c.args.arena.now) at)) c.args.rows.now c.loop-i.i c.index-rows-i.result l c.index-rows-i.is c.requires.first in
    let second = row_item_hold (λ at. IsTrue (has (store_of c.args.arena.now) at)) c.args.others.now c.loop-i.i c.index-others-i.result m c.index-others-i.is c.requires.second in
    (omega (arith, r, c.decreases), (first, (second, c.loop-i.invariant.right)))

pub compare_row_lists-returns-clause-order : goal.compare_row_lists-returns-clause-order
compare_row_lists-returns-clause-order t c =
    let e : c.loop-i.i ≡ min (length c.args.rows.now) (length c.args.others.now) = omega (arith, c.loop-i-test.false, c.min-i-end.ensures, c.loop-i.auto.i-end) in
    c.cmp.ensures ∙ rows_end (term_of (store_of c.args.arena.now)) c.args.rows.now c.args.others.now c.loop-i.i e c.loop-i.invariant.so_far

pub compare_types-returns-then-eq-clause-order : goal.compare_types-returns-then-eq-clause-order
compare_types-returns-then-eq-clause-order t c = same_types (store_of c.args.arena.now) c.args.pair.first c.args.pair.second (sym c.eq.ensures ∙ c.if-eq.true)

pub compare_types-returns-then-is_ne-clause-order : goal.compare_types-returns-then-is_ne-clause-order
compare_types-returns-then-is_ne-clause-order t c =
    types_differ_free (store_of c.args.arena.now) c.args.arena.now.sound c.args.pair.first c.args.pair.second c.node-a.result.now c.node-b.result.now c.compare_free-free.result
    c.node-a.ensures c.node-b.ensures c.compare_free-free.ensures (sym c.is_ne.ensures ∙ c.if-is_ne.true)

pub compare_types-compare_row_lists-requires : goal.compare_types-compare_row_lists-requires
compare_types-compare_row_lists-requires t c =
    let r : ranks (store_of c.args.arena.now) (row_types c.as_slice.result.now) ≤ rank (store_of c.args.arena.now) c.args.pair.first =
    subst (λ (xs : List Row). ranks (store_of c.args.arena.now) (row_types xs) ≤ rank (store_of c.args.arena.now) c.args.pair.first) (sym c.as_slice.ensures)
    (node_rank_at (store_of c.args.arena.now) c.args.arena.now.sound c.args.pair.first c.node-a.result.now c.node-a.ensures) in
    let first =
    subst (λ (xs : List Row). All (λ at. IsTrue (has (store_of c.args.arena.now) at)) (row_types xs)) (sym c.as_slice.ensures)
    (c.args.arena.now.sound.there c.args.pair.first c.node-a.result.now c.node-a.ensures) in
    let second =
    subst (λ (xs : List Row). All (λ at. IsTrue (has (store_of c.args.arena.now) at)) (row_types xs)) (sym c.as_slice-2.ensures)
    (c.args.arena.now.sound.there c.args.pair.second c.node-b.result.now c.node-b.ensures) in
    (omega (arith, r, c.decreases), (first, (second, c.requires.right)))

pub compare_types-returns-clause-order : goal.compare_types-returns-clause-order
compare_types-returns-clause-order t c =
    types_tie_free (store_of c.args.arena.now) c.args.arena.now.sound c.args.pair.first c.args.pair.second c.node-a.result.now c.node-b.result.now c.as_slice.result.now c.as_slice-2.result.now
    c.compare_free-free.result c.in_ok-order.order c.node-a.ensures c.node-b.ensures c.compare_free-free.ensures (sym c.is_ne.ensures ∙ c.if-is_ne.false) c.as_slice.ensures c.as_slice-2.ensures c.in_ok-order.ensures.order

pub compare_types-returns-clause-right : goal.compare_types-returns-clause-right
compare_types-returns-clause-right t c =
    compared_more (store_of c.args.arena.now) c.compare_row_lists.new.known c.insert.new.self c.args.pair c.in_ok-order.order c.in_ok-order.ensures.right
    (types_tie_free (store_of c.args.arena.now) c.args.arena.now.sound c.args.pair.first c.args.pair.second c.node-a.result.now c.node-b.result.now c.as_slice.result.now c.as_slice-2.result.now
    c.compare_free-free.result c.in_ok-order.order c.node-a.ensures c.node-b.ensures c.compare_free-free.ensures (sym c.is_ne.ensures ∙ c.if-is_ne.false) c.as_slice.ensures c.as_slice-2.ensures c.in_ok-order.ensures.order)
    c.in_ok-insert.ensures.updates.0
