use Rattle.std.proofs.Common.{◌-◌}
use Rattle.level_workers.proofs.WorkLemmas.{Works, top}
use Rattle.level_workers.proofs.worker.do_tasks.Given as goal

abbrev pub invariant-loop-number : goal.invariant-loop-number
invariant-loop-number g l = Works (g.T.Task.gives l.task) l.board l.fn.seat.parts l.outputs.items l.seat

abbrev pub decreases-loop-number : goal.decreases-loop-number
decreases-loop-number g l = l.board.limit - top l.seat.finds
