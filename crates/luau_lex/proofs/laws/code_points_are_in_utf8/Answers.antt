use Rattle.luau_lex.proofs.ValueLemmas.{scheme_is, surrogates_three}
use Rattle.luau_lex.proofs.laws.code_points_are_in_utf8.Goals as goal

pub returns-clause-scheme : goal.returns-clause-scheme
returns-clause-scheme c = scheme_is

pub returns-clause-surrogates : goal.returns-clause-surrogates
returns-clause-surrogates c = surrogates_three
