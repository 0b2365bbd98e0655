use Rattle.std.proofs.Common.{refl}
use Rattle.luau_grammar.specs.Modules.{max_level}
use Rattle.decl_grammar.proofs.Computed.{every_file_parser, are_declared}
use Rattle.decl_grammar.proofs.samples.lists_of_types.Goals as goal

pub returns-clause-one : goal.returns-clause-one
unfolding every_file_parser
returns-clause-one c = are_declared max_level _ _ _ refl

pub returns-clause-two : goal.returns-clause-two
unfolding every_file_parser
returns-clause-two c = are_declared max_level _ _ _ refl

pub returns-clause-rest : goal.returns-clause-rest
unfolding every_file_parser
returns-clause-rest c = are_declared max_level _ _ _ refl

pub returns-clause-one_and_rest : goal.returns-clause-one_and_rest
unfolding every_file_parser
returns-clause-one_and_rest c = are_declared max_level _ _ _ refl
