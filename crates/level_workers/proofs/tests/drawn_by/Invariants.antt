use Rattle.std.proofs.Common.{◌≡◌}
use Rattle.level_workers.proofs.tests.drawn_by.Given as goal

abbrev pub invariant-loop : goal.invariant-loop
invariant-loop l = l.seat.board ≡ l.board
