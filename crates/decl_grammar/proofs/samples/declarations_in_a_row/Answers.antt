use Rattle.std.proofs.Common.{refl}
use Rattle.luau_grammar.specs.Modules.{max_level}
use Rattle.decl_grammar.proofs.Computed.{every_file_parser, are_declared}
use Rattle.decl_grammar.proofs.samples.declarations_in_a_row.Goals as goal

pub returns-clause-none : goal.returns-clause-none
unfolding every_file_parser
returns-clause-none c = are_declared max_level _ _ _ refl

pub returns-clause-one : goal.returns-clause-one
unfolding every_file_parser
returns-clause-one c = are_declared max_level _ _ _ refl

pub returns-clause-two : goal.returns-clause-two
unfolding every_file_parser
returns-clause-two c = are_declared max_level _ _ _ refl

pub returns-clause-marks : goal.returns-clause-marks
unfolding every_file_parser
returns-clause-marks c = are_declared max_level _ _ _ refl

pub returns-clause-path : goal.returns-clause-path
unfolding every_file_parser
returns-clause-path c = are_declared max_level _ _ _ refl

pub returns-clause-word_as_a_name : goal.returns-clause-word_as_a_name
unfolding every_file_parser
returns-clause-word_as_a_name c = are_declared max_level _ _ _ refl
