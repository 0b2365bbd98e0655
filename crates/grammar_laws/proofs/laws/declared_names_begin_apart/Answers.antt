use Rattle.grammar_laws.proofs.DeclaredNames.{declared_apart}
use Rattle.grammar_laws.proofs.laws.declared_names_begin_apart.Goals as goal

pub returns : goal.returns
returns c = record { apart = declared_apart }
