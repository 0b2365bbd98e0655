use Rattle.std.proofs.Common.{◌≡◌, ℕ, length, drop, ap, sym, ◌∙◌, arith}
use Rattle.type_ops.specs.Places.{place}
use Rattle.type_ops.proofs.PlaceFacts.{moved, moved_none, place_less, place_same, place_more, place_end}
use Rattle.type_ops.proofs.places.place_in.Goals as goal

pub loop-i-init : goal.loop-i-init
loop-i-init g c = moved_none _

pub returns-in-Less : goal.returns-in-Less
returns-in-Less g c =
    place_less (g.T.Ord.cmp c.args.x.now) c.args.list.now c.loop-i.i c.index-list-i.result c.loop-i-test.true c.index-list-i.is c.loop-i.invariant (sym c.in-Less.ensures)

pub returns-in-Equal : goal.returns-in-Equal
returns-in-Equal g c =
    place_same (g.T.Ord.cmp c.args.x.now) c.args.list.now c.loop-i.i c.index-list-i.result c.loop-i-test.true c.index-list-i.is c.loop-i.invariant (sym c.in-Equal.ensures)

pub loop-i-preserved : goal.loop-i-preserved
loop-i-preserved g c =
    place_more (g.T.Ord.cmp c.args.x.now) c.args.list.now c.loop-i.i c.index-list-i.result c.loop-i-test.true c.index-list-i.is c.loop-i.invariant (sym c.in-Greater.ensures)

pub returns : goal.returns
returns g c =
    let e : c.loop-i.i ≡ length c.args.list.now = omega (arith, c.loop-i-test.false, c.loop-i.auto.i-end) in
    place_end (g.T.Ord.cmp c.args.x.now) c.args.list.now
    (c.loop-i.invariant ∙ ap (λ (n : ℕ). moved n (place (g.T.Ord.cmp c.args.x.now) (drop n c.args.list.now))) e)
