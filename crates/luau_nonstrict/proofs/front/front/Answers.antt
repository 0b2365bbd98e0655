use Rattle.std.proofs.Common.{arith}
use Rattle.std.proofs.lemmas.List.{length-take}
use Rattle.std.proofs.lemmas.Result.{err_from_is_err_and}
use Rattle.luau_nonstrict.proofs.Fronts.{loses, moves_on}
use Rattle.luau_nonstrict.proofs.front.front.Goals as goal

-- a read that fails lost no more than it was asked for
pub returns-in_err-read_more-clause-lost : goal.returns-in_err-read_more-clause-lost
returns-in_err-read_more-clause-lost g c =
    let p = err_from_is_err_and c.from_residual.result c.from_residual.ensures.1 in
    rw p.1 (loses _ _ _ c.loop.bytes.items _ c.args.at_most (omega (arith, length-take c.min-room.result c.loop.buffer)) c.loop.invariant.taken c.in_err-read_more.ensures.lost)

pub loop-preserved : goal.loop-preserved
loop-preserved g c =
    let moved = moves_on _ _ _ c.loop.bytes.items c.read_more.new.bytes.items _ c.args.at_most (omega (arith, length-take c.min-room.result c.loop.buffer, c.min-room.ensures)) c.loop.invariant.taken c.in_ok-read_more.ensures.moved in
    record { taken = moved.0; within = moved.1 }
