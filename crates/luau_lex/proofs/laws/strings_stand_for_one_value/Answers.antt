use Rattle.luau_lex.proofs.ValueLemmas.{stands_so, one_value}
use Rattle.luau_lex.proofs.laws.strings_stand_for_one_value.Goals as goal

pub returns-clause-some : goal.returns-clause-some
returns-clause-some c = stands_so

pub returns-clause-one : goal.returns-clause-one
returns-clause-one c = one_value
