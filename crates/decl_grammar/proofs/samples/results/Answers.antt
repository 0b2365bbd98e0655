use Rattle.std.proofs.Common.{refl}
use Rattle.luau_grammar.specs.Modules.{max_level}
use Rattle.decl_grammar.proofs.Computed.{every_file_parser, are_declared}
use Rattle.decl_grammar.proofs.samples.results.Goals as goal

pub returns-clause-one : goal.returns-clause-one
unfolding every_file_parser
returns-clause-one c = are_declared max_level _ _ _ refl

pub returns-clause-in_parens : goal.returns-clause-in_parens
unfolding every_file_parser
returns-clause-in_parens c = are_declared max_level _ _ _ refl

pub returns-clause-several : goal.returns-clause-several
unfolding every_file_parser
returns-clause-several c = are_declared max_level _ _ _ refl

pub returns-clause-function : goal.returns-clause-function
unfolding every_file_parser
returns-clause-function c = are_declared max_level _ _ _ refl

pub returns-clause-function_with_a_name : goal.returns-clause-function_with_a_name
unfolding every_file_parser
returns-clause-function_with_a_name c = are_declared max_level _ _ _ refl

pub returns-clause-optional : goal.returns-clause-optional
unfolding every_file_parser
returns-clause-optional c = are_declared max_level _ _ _ refl
