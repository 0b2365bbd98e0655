use Rattle.folder_lines.proofs.Accepted.{all_accepted}
use Rattle.folder_lines.proofs.laws.trees_of_files_are_accepted.Goals as goal

pub returns : goal.returns
returns c = all_accepted c.trees_of_texts_stand_apart.ensures c.laws_determine_tokens.ensures.all c.the_parser_reads_the_grammar.ensures.only
