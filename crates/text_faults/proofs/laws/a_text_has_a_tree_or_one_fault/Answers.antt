use Rattle.text_faults.proofs.TextErrors.{one_fault_of, no_fault_of}
use Rattle.text_faults.proofs.laws.a_text_has_a_tree_or_one_fault.Goals as goal

pub returns-clause-one : goal.returns-clause-one
returns-clause-one c = one_fault_of

pub returns-clause-no_tree : goal.returns-clause-no_tree
returns-clause-no_tree c = no_fault_of
