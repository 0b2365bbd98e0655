use Rattle.luau_scope.proofs.Uses.{captured_found, own_found}
use Rattle.luau_scope.proofs.walker.Walker.local.Goals as goal

pub returns-in_ok-capture : goal.returns-in_ok-capture
returns-in_ok-capture c = captured_found c.args.within c.args.at c.args.held.local c.args.held.function c.args.self.now _ _ _ c.is_same.ensures c.if-not-is_same.true c.in_ok-mean.ensures c.in_ok-capture.ensures

pub returns-else-not-is_same : goal.returns-else-not-is_same
returns-else-not-is_same c = own_found c.args.within c.args.at c.args.held.local c.args.held.function c.args.self.now _ _ c.is_same.ensures c.if-not-is_same.false c.in_ok-mean.ensures
