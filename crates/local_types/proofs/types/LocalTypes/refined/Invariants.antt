use Rattle.std.proofs.Common.{drop}
use Rattle.local_types.specs.Locals.{refs_said}
use Rattle.local_types.proofs.RefineFacts.{RefinedSo}
use Rattle.local_types.proofs.types.LocalTypes.refined.Given as goal

-- the entries of the locals from here to the end are refined
abbrev pub invariant-loop-i : goal.invariant-loop-i
invariant-loop-i l = RefinedSo l.fn.self l.self l.map l.now (refs_said l.said) (drop l.i l.said) l.empty
