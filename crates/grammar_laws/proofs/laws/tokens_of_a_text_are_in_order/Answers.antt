use Rattle.grammar_laws.proofs.InOrder.{lexed_in_order}
use Rattle.grammar_laws.proofs.laws.tokens_of_a_text_are_in_order.Goals as goal

pub returns : goal.returns
returns c = record { in_order = lexed_in_order }
