use Rattle.std.proofs.Common.{sym, ap, ◌∙◌, arith}
use Rattle.level_workers.specs.Seats.{Board, Held}
use Rattle.level_workers.proofs.Moves.{draws}
use Rattle.level_workers.proofs.board.Tickets.draw.Goals as goal

pub fetch_add-found-requires : goal.fetch_add-found-requires
fetch_add-found-requires c =
    let i = c.seat.invariant in
    let t = c.self.invariant in
    let same = ap (λ (h : Held). h.board.id) c.seat.view_is ∙ ap (λ (b : Board). b.id) (c.requires ∙ sym c.self.view_is) in (
      same,
      omega arith,
      draws c.self.inside.table.shared.key.limit c.self.inside.table.shared.key.seats _ _ c.seat.inside.seat.me (omega arith) (sym i.1 ∙ c.if-seat.false) (omega arith),
    )
