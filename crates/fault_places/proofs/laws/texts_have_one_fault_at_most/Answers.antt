use Rattle.std.proofs.Common.{[]}
use Rattle.fault_places.proofs.OneFault.{one_fault, at_the_end, no_tree}
use Rattle.fault_places.proofs.laws.texts_have_one_fault_at_most.Goals as goal

pub returns-clause-one : goal.returns-clause-one
returns-clause-one c = λ text ts. one_fault text ts []

pub returns-clause-at_the_end : goal.returns-clause-at_the_end
returns-clause-at_the_end c = λ text ts. at_the_end text ts []

pub returns-clause-no_tree : goal.returns-clause-no_tree
returns-clause-no_tree c = λ text ts. no_tree text ts []
