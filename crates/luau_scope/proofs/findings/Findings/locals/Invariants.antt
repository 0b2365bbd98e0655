use Rattle.std.proofs.Common.{◌≡◌, ◌++◌, length}
use Rattle.luau_scope.specs.Steps.{marked}
use Rattle.luau_scope.proofs.findings.Findings.locals.Given as goal

-- those so far and those of the rest are all
abbrev pub invariant-loop-rest : goal.invariant-loop-rest
invariant-loop-rest l = l.locals.items ++ marked l.self.assigned l.self.captured l.number l.rest ≡ marked l.self.assigned l.self.captured 0 l.self.locals

abbrev pub decreases-loop-rest : goal.decreases-loop-rest
decreases-loop-rest l = length l.rest
