use Rattle.std.proofs.Common.{◌≤◌, sym, ap, ◌∙◌, subst, arith}
use Rattle.level_workers.specs.Seats.{Board, Held}
use Rattle.level_workers.proofs.Moves.{splits}
use Rattle.level_workers.proofs.board.Tickets.split.Goals as goal

pub split_seat-part-requires : goal.split_seat-part-requires
split_seat-part-requires c =
    let t = c.self.invariant in
    let two : 2 ≤ c.seat.inside.seat.me.0.parts = subst (λ k. 2 ≤ k) (sym (ap (λ (h : Held). h.parts) c.seat.view_is)) c.requires.parts in
    let same = ap (λ (h : Held). h.board.id) c.seat.view_is ∙ ap (λ (b : Board). b.id) (c.requires.board ∙ sym c.self.view_is) in (
      same,
      omega arith,
      splits c.self.inside.table.shared.key.limit c.self.inside.table.shared.key.seats 0 c.seat.inside.seat.id c.seat.inside.seat.me.0 two,
    )
