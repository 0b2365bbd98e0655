use Rattle.std.proofs.Common.{refl}
use Rattle.luau_grammar.specs.Modules.{max_level}
use Rattle.decl_grammar.proofs.Computed.{every_file_parser, is_no_file}
use Rattle.decl_grammar.proofs.samples.some_tokens_declare_nothing.Goals as goal

pub returns-clause-no_declare : goal.returns-clause-no_declare
unfolding every_file_parser
returns-clause-no_declare c = is_no_file max_level _ _ refl

pub returns-clause-no_function : goal.returns-clause-no_function
unfolding every_file_parser
returns-clause-no_function c = is_no_file max_level _ _ refl

pub returns-clause-other_mark : goal.returns-clause-other_mark
unfolding every_file_parser
returns-clause-other_mark c = is_no_file max_level _ _ refl

pub returns-clause-mark_alone : goal.returns-clause-mark_alone
unfolding every_file_parser
returns-clause-mark_alone c = is_no_file max_level _ _ refl

pub returns-clause-three_names : goal.returns-clause-three_names
unfolding every_file_parser
returns-clause-three_names c = is_no_file max_level _ _ refl

pub returns-clause-method : goal.returns-clause-method
unfolding every_file_parser
returns-clause-method c = is_no_file max_level _ _ refl

pub returns-clause-semicolon : goal.returns-clause-semicolon
unfolding every_file_parser
returns-clause-semicolon c = is_no_file max_level _ _ refl

pub returns-clause-no_results : goal.returns-clause-no_results
unfolding every_file_parser
returns-clause-no_results c = is_no_file max_level _ _ refl

pub returns-clause-named_parameter : goal.returns-clause-named_parameter
unfolding every_file_parser
returns-clause-named_parameter c = is_no_file max_level _ _ refl

pub returns-clause-comma_at_the_end : goal.returns-clause-comma_at_the_end
unfolding every_file_parser
returns-clause-comma_at_the_end c = is_no_file max_level _ _ refl

pub returns-clause-type_behind_the_rest : goal.returns-clause-type_behind_the_rest
unfolding every_file_parser
returns-clause-type_behind_the_rest c = is_no_file max_level _ _ refl

pub returns-clause-generic_pack : goal.returns-clause-generic_pack
unfolding every_file_parser
returns-clause-generic_pack c = is_no_file max_level _ _ refl

pub returns-clause-named_result : goal.returns-clause-named_result
unfolding every_file_parser
returns-clause-named_result c = is_no_file max_level _ _ refl

pub returns-clause-pack_of_results : goal.returns-clause-pack_of_results
unfolding every_file_parser
returns-clause-pack_of_results c = is_no_file max_level _ _ refl

pub returns-clause-results_without_parens : goal.returns-clause-results_without_parens
unfolding every_file_parser
returns-clause-results_without_parens c = is_no_file max_level _ _ refl

pub returns-clause-optional_results : goal.returns-clause-optional_results
unfolding every_file_parser
returns-clause-optional_results c = is_no_file max_level _ _ refl
