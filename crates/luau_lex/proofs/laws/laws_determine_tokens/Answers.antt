use Rattle.std.proofs.Common.{None}
use Rattle.luau_lex.proofs.LawLemmas.{laws_determine, tokens_are_lexed}
use Rattle.luau_lex.proofs.laws.laws_determine_tokens.Goals as goal

pub returns-clause-only : goal.returns-clause-only
returns-clause-only c = λ text ts h. laws_determine text ts None h

pub returns-clause-all : goal.returns-clause-all
returns-clause-all c = tokens_are_lexed
