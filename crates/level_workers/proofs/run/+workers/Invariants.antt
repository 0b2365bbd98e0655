use Rattle.std.proofs.Common.{◌+◌, ◌*◌}
use Rattle.level_workers.proofs.run.+workers.Given as goal

abbrev pub decreases-run_seats : goal.decreases-run_seats
decreases-run_seats g l = 2 * l.seats.len

abbrev pub decreases-front : goal.decreases-front
decreases-front g l = 2 * l.seats.len + 1

abbrev pub decreases-back : goal.decreases-back
decreases-back g l = 2 * l.others.len + 1
