use Rattle.std.proofs.Common.{◌≡◌, ◌≤◌, ◌-◌, length, take, drop}
use Rattle.outside.specs.Written.{Appends}
use Rattle.nonstrict_cli.proofs.Rests.{HasGiven}
use Rattle.nonstrict_cli.proofs.write.write_whole.Given as goal

-- what is done is written, nothing failed, and what was given leaves what isn't done
abbrev pub invariant-loop-done : goal.invariant-loop-done
invariant-loop-done g l = (l.done ≤ length l.text) × Appends (g.S.Sink.written l.initial.sink) (g.S.Sink.written l.sink) (take l.done l.text) × (g.S.Sink.faults l.sink ≡ g.S.Sink.faults l.initial.sink) × HasGiven (g.S.Sink.chunks l.initial.sink) (g.S.Sink.chunks l.sink) l.text (drop l.done l.text)

-- each write takes at least one byte
abbrev pub decreases-loop-done : goal.decreases-loop-done
decreases-loop-done g l = length l.text - l.done
