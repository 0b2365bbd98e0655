use Rattle.text_faults.proofs.TextErrors.{error_is_fault, fault_is_error}
use Rattle.text_faults.proofs.laws.the_error_of_a_text_is_its_fault.Goals as goal

pub returns-clause-told : goal.returns-clause-told
returns-clause-told c = error_is_fault

pub returns-clause-only : goal.returns-clause-only
returns-clause-only c = fault_is_error
