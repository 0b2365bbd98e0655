use Rattle.std.proofs.Common.{◌≡◌, ◌<◌, ◌≤◌, ℕ, List, sym, subst, arith}
use Rattle.std.specs.Prelude.{IsTrue, All}
use Rattle.type_arena.specs.Arena.{store_of}
use Rattle.type_arena.specs.Store.{has, field_types, row_types}
use Rattle.type_arena.specs.Meaning.{rank}
use Rattle.type_arena.specs.declared.node.Row.{Row}
use Rattle.type_arena.specs.declared.node.TypeRef.{TypeRef}
use Rattle.type_normal.specs.Shape.{ranks}
use Rattle.type_normal.proofs.ShapeFacts.{field_item_holds, field_item_rank, row_item_hold, row_item_rank, node_rank_at}
use Rattle.type_normal.proofs.ListingFacts.{listed_read, right_at_more}
use Rattle.type_normal.proofs.listing.+listings.Goals as goal

pub fields_list-lists_at-requires : goal.fields_list-lists_at-requires
fields_list-lists_at-requires t c =
    let r : rank (store_of c.args.arena.now) c.field-item.result.1 < ranks (store_of c.args.arena.now) (field_types c.args.fields.now) = field_item_rank (store_of c.args.arena.now) c.args.fields.now c.loop-field.field-index c.field-item.result c.loop-field-test.true c.field-item.is in
    let h = field_item_holds (λ at. IsTrue (has (store_of c.args.arena.now) at)) c.args.fields.now c.loop-field.field-index c.field-item.result c.loop-field-test.true c.field-item.is c.requires.there in
    (omega (arith, r, c.decreases), (h, c.loop-field.invariant.right))

pub rows_list-fields_list-requires : goal.rows_list-fields_list-requires
rows_list-fields_list-requires t c =
    let e : c.as_slice.result.now ≡ c.row-item.result.fields = c.as_slice.ensures in
    let r : ranks (store_of c.args.arena.now) (field_types c.as_slice.result.now) ≤ ranks (store_of c.args.arena.now) (row_types c.args.rows.now) =
    subst (λ (xs : List (List ℕ × TypeRef)). ranks (store_of c.args.arena.now) (field_types xs) ≤ ranks (store_of c.args.arena.now) (row_types c.args.rows.now)) (sym e)
    (row_item_rank (store_of c.args.arena.now) c.args.rows.now c.loop-row.row-index c.row-item.result c.loop-row-test.true c.row-item.is) in
    let h =
    subst (λ (xs : List (List ℕ × TypeRef)). All (λ at. IsTrue (has (store_of c.args.arena.now) at)) (field_types xs)) (sym e)
    (row_item_hold (λ at. IsTrue (has (store_of c.args.arena.now) at)) c.args.rows.now c.loop-row.row-index c.row-item.result c.loop-row-test.true c.row-item.is c.requires.there) in
    (omega (arith, r, c.decreases), (h, c.loop-row.invariant.right))

pub lists_at-rows_list-requires : goal.lists_at-rows_list-requires
lists_at-rows_list-requires t c =
    let e : c.as_slice-rows.result.now ≡ c.node.result.now.rows = c.as_slice-rows.ensures in
    let r : ranks (store_of c.args.arena.now) (row_types c.as_slice-rows.result.now) ≤ rank (store_of c.args.arena.now) c.args.at =
    subst (λ (xs : List Row). ranks (store_of c.args.arena.now) (row_types xs) ≤ rank (store_of c.args.arena.now) c.args.at) (sym e)
    (node_rank_at (store_of c.args.arena.now) c.args.arena.now.sound c.args.at c.node.result.now c.node.ensures) in
    let h =
    subst (λ (xs : List Row). All (λ at. IsTrue (has (store_of c.args.arena.now) at)) (row_types xs)) (sym e)
    (c.args.arena.now.sound.there c.args.at c.node.result.now c.node.ensures) in
    (omega (arith, r, c.decreases), (h, c.requires.right))

pub lists_at-returns-clause-listed : goal.lists_at-returns-clause-listed
lists_at-returns-clause-listed t c =
    listed_read c.args.name.now (store_of c.args.arena.now) c.args.arena.now.sound c.args.at c.node.result.now c.as_slice-rows.result.now c.in_ok-listed.listed
    c.node.ensures c.as_slice-rows.ensures c.in_ok-listed.ensures.listed

pub lists_at-returns-clause-right : goal.lists_at-returns-clause-right
lists_at-returns-clause-right t c =
    right_at_more c.args.name.now (store_of c.args.arena.now) c.rows_list.new.known c.insert.new.self c.args.at c.in_ok-listed.listed c.in_ok-listed.ensures.right
    (listed_read c.args.name.now (store_of c.args.arena.now) c.args.arena.now.sound c.args.at c.node.result.now c.as_slice-rows.result.now c.in_ok-listed.listed
    c.node.ensures c.as_slice-rows.ensures c.in_ok-listed.ensures.listed)
    c.in_ok-insert.ensures.updates.0
