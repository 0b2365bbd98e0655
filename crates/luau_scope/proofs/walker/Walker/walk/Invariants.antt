use Rattle.std.proofs.Common.{◌≡◌}
use Rattle.luau_scope.specs.Steps.{run}
use Rattle.luau_scope.proofs.walker.Walker.walk.Given as goal

abbrev pub invariant-loop-turn : goal.invariant-loop-turn
invariant-loop-turn l = run l.tasks l.self ≡ run l.initial.tasks l.initial.self
