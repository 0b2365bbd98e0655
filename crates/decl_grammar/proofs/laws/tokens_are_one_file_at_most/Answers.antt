use Rattle.decl_grammar.proofs.FileFamilies.{bounded_one_file}
use Rattle.decl_grammar.proofs.laws.tokens_are_one_file_at_most.Goals as goal

pub returns : goal.returns
returns c = bounded_one_file
