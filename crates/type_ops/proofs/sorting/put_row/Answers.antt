use Rattle.std.proofs.Common.{◌≡◌, ◌≤◌, length, ap, sym, ◌∙◌, arith}
use Rattle.std.specs.Prelude.{Some, None}
use Rattle.type_arena.specs.Arena.{store_of}
use Rattle.type_arena.specs.Meaning.{term_of}
use Rattle.type_ops.specs.Comparing.{row_order}
use Rattle.type_ops.specs.Places.{place}
use Rattle.type_ops.proofs.PlaceFacts.{place_within, put_at, put_nowhere}
use Rattle.type_ops.proofs.sorting.put_row.Goals as goal

pub insert-requires : goal.insert-requires
insert-requires c =
    let e : Some c.in-Some.at ≡ place (row_order (term_of (store_of c.args.arena.now)) c.args.row) c.args.rows.now.items =
    sym c.in-Some.is ∙ c.in_ok-place.ensures.place ∙ ap (place (row_order (term_of (store_of c.args.arena.now)) c.args.row)) c.as_slice.ensures.value in
    let w : c.in-Some.at ≤ length c.args.rows.now.items = place_within (row_order (term_of (store_of c.args.arena.now)) c.args.row) c.args.rows.now.items c.in-Some.at e in
    let l : length c.as_slice.result.now ≡ length c.args.rows.now.items = ap length c.as_slice.ensures.value in
    omega (arith, w, l, c.as_slice.ensures.len)

pub returns-in_ok-insert-clause-rows : goal.returns-in_ok-insert-clause-rows
returns-in_ok-insert-clause-rows c =
    c.in_ok-insert.ensures.items
    ∙ put_at (row_order (term_of (store_of c.args.arena.now))) c.args.row c.args.rows.now.items c.in-Some.at
    (sym c.in-Some.is ∙ c.in_ok-place.ensures.place ∙ ap (place (row_order (term_of (store_of c.args.arena.now)) c.args.row)) c.as_slice.ensures.value)

pub returns-in_default-clause-rows : goal.returns-in_default-clause-rows
returns-in_default-clause-rows c =
    put_nowhere (row_order (term_of (store_of c.args.arena.now))) c.args.row c.args.rows.now.items
    (sym c.in_default.is ∙ c.in_ok-place.ensures.place ∙ ap (place (row_order (term_of (store_of c.args.arena.now)) c.args.row)) c.as_slice.ensures.value)
