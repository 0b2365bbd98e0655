use Rattle.luau_values.proofs.OrderFacts.{libraries_are}
use Rattle.luau_values.proofs.start.libraries_in_order.Goals as goal

pub returns-clause-members : goal.returns-clause-members
returns-clause-members c = libraries_are
