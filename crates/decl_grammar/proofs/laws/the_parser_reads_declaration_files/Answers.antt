use Rattle.decl_grammar.proofs.FileFamilies.{strictly_read_is_file, strictly_file_is_read}
use Rattle.decl_grammar.proofs.laws.the_parser_reads_declaration_files.Goals as goal

pub returns-clause-only : goal.returns-clause-only
returns-clause-only c = strictly_read_is_file

pub returns-clause-all : goal.returns-clause-all
returns-clause-all c = strictly_file_is_read
