use Rattle.std.proofs.Common.{take}
use Rattle.local_types.specs.Locals.{numbers}
use Rattle.local_types.proofs.ForgetFacts.{Forgot}
use Rattle.local_types.proofs.types.LocalTypes.forgotten.Given as goal

-- nothing is known of the locals so far
abbrev pub invariant-loop-local : goal.invariant-loop-local
invariant-loop-local l = Forgot l.fn.self l.self l.fn.map l.now (numbers (take l.local-index l.locals)) l.unknown
