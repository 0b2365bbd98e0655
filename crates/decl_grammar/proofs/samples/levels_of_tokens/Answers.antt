use Rattle.std.proofs.Common.{refl}
use Rattle.decl_grammar.proofs.Computed.{every_file_parser, are_declared, is_no_file}
use Rattle.decl_grammar.proofs.samples.levels_of_tokens.Goals as goal

pub returns-clause-outside : goal.returns-clause-outside
unfolding every_file_parser
returns-clause-outside c = are_declared 0 _ _ _ refl

pub returns-clause-in_a_list : goal.returns-clause-in_a_list
unfolding every_file_parser
returns-clause-in_a_list c = are_declared 1 _ _ _ refl

pub returns-clause-not_lower : goal.returns-clause-not_lower
unfolding every_file_parser
returns-clause-not_lower c = is_no_file 0 _ _ refl

pub returns-clause-in_parens : goal.returns-clause-in_parens
unfolding every_file_parser
returns-clause-in_parens c = are_declared 1 _ _ _ refl

pub returns-clause-behind_them : goal.returns-clause-behind_them
unfolding every_file_parser
returns-clause-behind_them c = are_declared 1 _ _ _ refl

pub returns-clause-not_below_them : goal.returns-clause-not_below_them
unfolding every_file_parser
returns-clause-not_below_them c = is_no_file 0 _ _ refl
