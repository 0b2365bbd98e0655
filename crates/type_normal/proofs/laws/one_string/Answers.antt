use Rattle.type_normal.proofs.KindFacts.{text_is_in}
use Rattle.type_normal.proofs.laws.one_string.Goals as goal

pub returns-clause-itself : goal.returns-clause-itself
returns-clause-itself c = text_is_in
