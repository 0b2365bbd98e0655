use Rattle.luau_lex.proofs.LawLemmas.{each_lexed, one_way}
use Rattle.luau_lex.proofs.laws.each_text_is_lexed_in_one_way.Goals as goal

pub returns-clause-some : goal.returns-clause-some
returns-clause-some c = each_lexed

pub returns-clause-one : goal.returns-clause-one
returns-clause-one c = one_way
