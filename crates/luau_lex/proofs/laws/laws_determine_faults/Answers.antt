use Rattle.std.proofs.Common.{Some}
use Rattle.luau_lex.proofs.LawLemmas.{laws_determine, fault_is_lexed}
use Rattle.luau_lex.proofs.laws.laws_determine_faults.Goals as goal

pub returns-clause-only : goal.returns-clause-only
returns-clause-only c = λ text ts e h. laws_determine text ts (Some e) h

pub returns-clause-all : goal.returns-clause-all
returns-clause-all c = fault_is_lexed
