use Rattle.std.proofs.lemmas.Result.{IfOk-at_ok}
use Rattle.level_workers.specs.Outputs.{IsDone}
use Rattle.level_workers.proofs.RunLemmas.{IsDone-joined, parts_of-halves}
use Rattle.level_workers.proofs.run.+workers.Goals as goal

pub returns : goal.returns
returns g t c =
    let cut = c.in_ok-others.ensures in
    let gives = g.T.Task.gives c.args.task.now in
    let board = c.args.board.now in
    let front = IfOk-at_ok (λ done. IsDone gives board _ done.0.items done.1) c.in_ok-outputs.was c.join-first.ensures.first in
    let back = IfOk-at_ok (λ done. IsDone gives board _ done.0.items done.1) c.in_ok-rest.was c.join-first.ensures.second in
    let sum = parts_of-halves c.args.seats.items c.split_off.new.self.items c.in_ok-others.others.items _ cut.items cut.tail in
    IsDone-joined gives board _ _ _ _ _ _ _ _ _ front back c.join_seats.ensures.both c.join_seats.ensures.all sum c.in_ok-append.ensures.items
