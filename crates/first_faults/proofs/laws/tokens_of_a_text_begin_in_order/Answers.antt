use Rattle.first_faults.proofs.TheFault.{lexed_order}
use Rattle.first_faults.proofs.laws.tokens_of_a_text_begin_in_order.Goals as goal

pub returns : goal.returns
returns c = lexed_order
