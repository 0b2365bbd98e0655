use Rattle.std.proofs.lemmas.Result.{IfOk-at_ok}
use Rattle.level_workers.proofs.WorkLemmas.{Works-more, Works-falls}
use Rattle.level_workers.proofs.worker.do_tasks.Goals as goal

pub loop-number-smaller : goal.loop-number-smaller
loop-number-smaller g c =
    let w = c.loop-number.invariant in
    Works-falls (g.T.Task.gives c.args.task.now) c.args.board.now c.args.seat.parts _ c.loop-number.seat c.draw.new.seat c.in-Some.number w (c.in-Some.ensures.found w.not_met)

pub loop-number-preserved : goal.loop-number-preserved
loop-number-preserved g c =
    let w = c.loop-number.invariant in
    let given = IfOk-at_ok (g.T.Task.gives c.args.task.now c.in-Some.number) c.in_ok-output.was c.run-output.ensures in
    Works-more (g.T.Task.gives c.args.task.now) c.args.board.now c.args.seat.parts c.loop-number.outputs.items c.push.new.self.items c.loop-number.seat c.draw.new.seat c.in-Some.number c.in_ok-output.field-0
    c.in_ok-push.ensures.items w (c.in-Some.ensures.found w.not_met) given
