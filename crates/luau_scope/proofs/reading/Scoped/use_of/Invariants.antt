use Rattle.std.proofs.Common.{◌≡◌, ℕ, length}
use Rattle.luau_scope.specs.Locals.{use_at}
use Rattle.luau_scope.proofs.Lookups.{Sorted}
use Rattle.luau_scope.proofs.reading.Scoped.use_of.Given as goal

-- the rest is sorted, and has the use if there is one
abbrev pub invariant-loop-front : goal.invariant-loop-front
invariant-loop-front l = record {
  sorted : (lowest : ℕ) × Sorted lowest l.rest;
  same : use_at l.rest l.at ≡ use_at l.self.uses l.at;
}

abbrev pub decreases-loop-front : goal.decreases-loop-front
decreases-loop-front l = length l.rest
