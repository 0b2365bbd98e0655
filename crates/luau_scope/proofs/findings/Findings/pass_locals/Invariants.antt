use Rattle.std.proofs.Common.{◌≡◌, length}
use Rattle.luau_scope.specs.Steps.{added, passed_by}
use Rattle.luau_scope.proofs.findings.Findings.pass_locals.Given as goal

-- what is still to be refused
abbrev pub invariant-loop-rest : goal.invariant-loop-rest
invariant-loop-rest l = added (passed_by l.reach l.rest) l.self ≡ added (passed_by l.reach l.initial.rest) l.initial.self

abbrev pub decreases-loop-rest : goal.decreases-loop-rest
decreases-loop-rest l = length l.rest
