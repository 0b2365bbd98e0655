use Rattle.luau_scope.proofs.InOrder.{locals_are_declared}
use Rattle.luau_scope.proofs.laws.locals_are_in_order.Goals as goal

pub returns : goal.returns
returns c = locals_are_declared
