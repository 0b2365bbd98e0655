use Rattle.std.proofs.Common.{◌≡◌, ◌≤◌, length, ap, sym, ◌∙◌, arith}
use Rattle.std.specs.Prelude.{Some, None}
use Rattle.type_ops.specs.Places.{place}
use Rattle.type_ops.proofs.PlaceFacts.{place_within, put_at, put_nowhere}
use Rattle.type_ops.proofs.places.put_in.Goals as goal

pub insert-requires : goal.insert-requires
insert-requires g c =
    let e : Some c.in-Some.at ≡ place (g.T.Ord.cmp c.args.x) c.args.list.now.items = c.in-Some.ensures ∙ ap (place (g.T.Ord.cmp c.args.x)) c.as_slice.ensures.value in
    let w : c.in-Some.at ≤ length c.args.list.now.items = place_within (g.T.Ord.cmp c.args.x) c.args.list.now.items c.in-Some.at e in
    let l : length c.as_slice.result.now ≡ length c.args.list.now.items = ap length c.as_slice.ensures.value in
    omega (arith, w, l, c.as_slice.ensures.len)

pub returns-in_ok-insert : goal.returns-in_ok-insert
returns-in_ok-insert g c =
    c.in_ok-insert.ensures.items
    ∙ put_at g.T.Ord.cmp c.args.x c.args.list.now.items c.in-Some.at (c.in-Some.ensures ∙ ap (place (g.T.Ord.cmp c.args.x)) c.as_slice.ensures.value)

pub returns-in_default : goal.returns-in_default
returns-in_default g c =
    put_nowhere g.T.Ord.cmp c.args.x c.args.list.now.items (c.in_default.ensures ∙ ap (place (g.T.Ord.cmp c.args.x)) c.as_slice.ensures.value)
