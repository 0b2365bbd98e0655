use Rattle.level_workers.proofs.MachineLaws.{order_after}
use Rattle.level_workers.proofs.laws.a_seat_finds_in_order.Goals as goal

pub returns : goal.returns
returns c draws seat = (order_after draws seat).0
