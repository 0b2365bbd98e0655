use Rattle.luau_scope.proofs.InOrder.{names_have_uses, uses_are_of_expressions, uses_ascend}
use Rattle.luau_scope.proofs.laws.uses_are_in_order.Goals as goal

pub returns-clause-names : goal.returns-clause-names
returns-clause-names c = names_have_uses

pub returns-clause-expressions : goal.returns-clause-expressions
returns-clause-expressions c = uses_are_of_expressions

pub returns-clause-sorted : goal.returns-clause-sorted
returns-clause-sorted c = uses_ascend
