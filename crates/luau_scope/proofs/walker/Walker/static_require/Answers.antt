use Rattle.luau_scope.proofs.Uses.{required_found}
use Rattle.luau_scope.proofs.walker.Walker.static_require.Goals as goal

pub returns-clause-found : goal.returns-clause-found
returns-clause-found c =
    required_found _ c.in-Some.text.now _ c.args.call.now c.args.callee.now c.args.self.now _ _ (rw c.in-Some.is at c.in_ok-text.ensures) c.in_ok-text-2.ensures c.in_ok-require.ensures c.in_ok-mean.ensures
