use Rattle.std.proofs.Common.{◌≡◌, ◌+◌, ◌++◌, sym, ap, ◌∙◌, subst, arith}
use Rattle.atomic_table.specs.Table.{Me}
use Rattle.level_workers.specs.declared.view.View.{View}
use Rattle.level_workers.specs.Numbers.{NoneTwice}
use Rattle.level_workers.specs.Seats.{Board, Held}
use Rattle.level_workers.proofs.Moves.{joins, looks}
use Rattle.level_workers.proofs.board.Tickets.join_seats.Goals as goal

pub join_seat-requires : goal.join_seat-requires
join_seat-requires c =
    let i = c.into.invariant in
    let o = c.other.invariant in
    let t = c.self.invariant in
    let same = ap (λ (h : Held). h.board.id) c.into.view_is ∙ ap (λ (b : Board). b.id) (c.requires.into ∙ sym c.self.view_is) in
    let same' = ap (λ (h : Held). h.board.id) c.other.view_is ∙ ap (λ (b : Board). b.id) (c.requires.other ∙ sym c.self.view_is) in (
      same,
      same',
      o.3,
      omega arith,
      joins c.self.inside.table.shared.key.limit c.self.inside.table.shared.key.seats 0 c.into.inside.seat.id c.into.inside.seat.me.0 c.other.inside.seat.id c.other.inside.seat.me.0 (omega arith) (omega arith),
    )

pub load-requires : goal.load-requires
load-requires c =
    let i = c.into.invariant in
    let t = c.self.invariant in
    let j = c.join_seat.ensures in
    let same = ap (λ (h : Held). h.board.id) c.into.view_is ∙ ap (λ (b : Board). b.id) (c.requires.into ∙ sym c.self.view_is) in
    let parts : c.join_seat.new.seat.me.0.parts ≡ c.into.inside.seat.me.0.parts + c.other.inside.seat.me.0.parts = ap (λ (m : Me (Unit {0}) View). m.0.parts) j.2 in (
      j.0 ∙ same,
      omega arith,
      looks c.self.inside.table.shared.key.limit c.self.inside.table.shared.key.seats _ _ c.join_seat.new.seat.me (omega arith),
    )

pub returns-clause-apart : goal.returns-clause-apart
returns-clause-apart c =
    let looked = c.load.ensures.2.1 in
    let known : c.load.new.seat.me.0.finds ≡ c.args.into.now.finds ++ c.args.other.finds =
    ap (λ (v : View). v.finds) looked.view ∙ ap (λ (m : Me (Unit {0}) View). m.0.finds) c.join_seat.ensures.2
    ∙ ap (λ (h : Held). h.finds ++ c.other.inside.seat.me.0.finds) c.into.view_is ∙ ap (λ (h : Held). c.args.into.now.finds ++ h.finds) c.other.view_is in
    subst NoneTwice known looked.tells.once
