use Rattle.grammar_faults.proofs.LocalModules.{a_fault_stands, a_fault_leaves_no_tree}
use Rattle.grammar_faults.proofs.laws.a_refused_token_is_refused_whatever_follows.Goals as goal

pub returns-clause-same_fault : goal.returns-clause-same_fault
returns-clause-same_fault c = a_fault_stands

pub returns-clause-no_tree : goal.returns-clause-no_tree
returns-clause-no_tree c = a_fault_leaves_no_tree
