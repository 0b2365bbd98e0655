use Rattle.grammar_laws.proofs.Everywhere.{bare_nested}
use Rattle.grammar_laws.proofs.laws.nodes_stand_in_one_another.Goals as goal

pub returns : goal.returns
returns c = record { nested = bare_nested }
