use Rattle.std.proofs.Common.{◌≡◌, ◌+◌, All}
use Rattle.level_workers.specs.Seats.{IsFresh, parts_of}
use Rattle.level_workers.proofs.run.one_seat_each.Given as goal

abbrev pub invariant-loop-seats : goal.invariant-loop-seats
invariant-loop-seats l = record {
  fresh : IsFresh l.board l.seat;
  all_fresh : All (IsFresh l.board) l.seats.items;
  parts : parts_of l.seats.items + l.seat.parts ≡ l.fn.seat.parts;
}

abbrev pub decreases-loop-seats : goal.decreases-loop-seats
decreases-loop-seats l = l.seat.parts
