use Rattle.std.proofs.Common.{◌≡◌, sym, ap, ◌∙◌, subst}
use Rattle.level_workers.specs.Numbers.{EachBelow}
use Rattle.level_workers.specs.Seats.{Board, drawn}
use Rattle.level_workers.proofs.PlainLemmas.{InOrder-plain}
use Rattle.level_workers.proofs.run.run_all.Goals as goal

pub returns-clause-list : goal.returns-clause-list
returns-clause-list g c =
    let done = c.in_ok-outputs.ensures in
    let board = c.args.board.now in
    let seat = c.in_ok-outputs.seat in
    let limit : seat.board.limit ≡ board.limit = ap (λ (b : Board). b.limit) done.board_is in
    let whole : seat.parts ≡ seat.board.seats = done.parts_are ∙ c.in_ok-seats.ensures.parts ∙ c.requires.whole ∙ sym (ap (λ (b : Board). b.seats) done.board_is) in
    let each = subst (λ n. EachBelow n (drawn seat)) limit (done.all whole done.met) in
    InOrder-plain (g.T.Task.gives c.args.task.now) board.limit c.in_ok-outputs.outputs.items c.in_ok-in_order.field-0.items (subst (EachBelow board.limit) (sym done.numbers) each) done.given c.in_ok-in_order.ensures
