use Rattle.luau_scope.specs.Found.{meant}
use Rattle.luau_scope.specs.Steps.{around_in}
use Rattle.luau_scope.proofs.Uses.{is_held, no_require, other_require, own_require}
use Rattle.luau_scope.proofs.walker.Walker.is_loader.Goals as goal

pub returns-then-not-is_require : goal.returns-then-not-is_require
returns-then-not-is_require c = no_require (around_in c.args.self.now c.args.within) c.args.name.now _ c.is_require.ensures c.if-not-is_require.true

pub returns-then-is_some : goal.returns-then-is_some
returns-then-is_some c =
    own_require (around_in c.args.self.now c.args.within) c.args.name.now _ _ c.is_require.ensures c.if-not-is_require.false
    (is_held (meant c.args.self.now.scope c.args.name.now) _ _ c.meant.ensures c.is_some.ensures) c.if-is_some.true

pub returns : goal.returns
returns c =
    other_require (around_in c.args.self.now c.args.within) c.args.name.now _ _ _ c.is_require.ensures c.if-not-is_require.false
    (is_held (meant c.args.self.now.scope c.args.name.now) _ _ c.meant.ensures c.is_some.ensures) c.if-is_some.false c.in_ok-is_fixed.ensures
