use Rattle.std.proofs.Common.{◌≡◌, length}
use Rattle.luau_scope.specs.Steps.{reach, reach_from}
use Rattle.luau_scope.proofs.findings.reach_of.Given as goal

abbrev pub invariant-loop-rest : goal.invariant-loop-rest
invariant-loop-rest l = reach_from l.reach l.rest l.declared ≡ reach l.uses l.declared

abbrev pub decreases-loop-rest : goal.decreases-loop-rest
decreases-loop-rest l = length l.rest
