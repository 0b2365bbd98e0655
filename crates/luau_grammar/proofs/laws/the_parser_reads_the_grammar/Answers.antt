use Rattle.luau_grammar.proofs.Families.{strictly_read_is_bare, strictly_bare_is_read}
use Rattle.luau_grammar.proofs.laws.the_parser_reads_the_grammar.Goals as goal

pub returns-clause-only : goal.returns-clause-only
returns-clause-only c = λ text ts b h. strictly_read_is_bare text ts b h.0 h.1

pub returns-clause-all : goal.returns-clause-all
returns-clause-all c = strictly_bare_is_read
