use Rattle.std.proofs.Common.{◌≡◌, ℕ, take, ap}
use Rattle.luau_scope.specs.declared.walker.Walker.{Walker}
use Rattle.luau_scope.specs.Found.{Scope}
use Rattle.luau_scope.specs.Steps.{after_close, run}
use Rattle.luau_scope.proofs.walker.Walker.go.Goals as goal

closed : (depth : ℕ) (s : Walker) (scope : Scope) → scope ≡ take depth s.scope → record s { scope = scope } ≡ after_close depth s
unfolding after_close
closed depth s scope e = ap (λ (within : Scope). record s { scope = within }) e

pub returns-in-Close : goal.returns-in-Close
returns-in-Close c = rw c.in-Close.is (ap (run c.args.tasks.now) (closed c.in-Close.depth c.args.self.now _ c.close.ensures))
