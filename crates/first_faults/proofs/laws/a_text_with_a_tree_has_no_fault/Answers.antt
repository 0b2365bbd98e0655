use Rattle.first_faults.proofs.NoFault.{no_fault_at_all}
use Rattle.first_faults.proofs.laws.a_text_with_a_tree_has_no_fault.Goals as goal

pub returns : goal.returns
returns c = λ text ts b e o h. no_fault_at_all text ts o b h e
