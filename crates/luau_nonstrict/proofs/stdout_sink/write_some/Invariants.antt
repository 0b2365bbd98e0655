use Rattle.std.specs.Io.KnownBytes.{Keeps}
use Rattle.luau_nonstrict.proofs.stdout_sink.write_some.Given as goal

-- an interrupted write left nothing
abbrev pub invariant-loop : goal.invariant-loop
invariant-loop g l = Keeps (g.W.Write.contents l.initial.out) (g.W.Write.contents l.out)
