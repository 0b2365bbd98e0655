use Rattle.std.proofs.Common.{refl}
use Rattle.luau_grammar.proofs.Computed.{every_parser, has_tree}
use Rattle.luau_grammar.proofs.laws.some_names_are_words_at_times.Goals as goal

pub returns-clause-continue_as_a_word : goal.returns-clause-continue_as_a_word
unfolding every_parser
returns-clause-continue_as_a_word c = has_tree _ _ 8 refl

pub returns-clause-continue_as_a_name : goal.returns-clause-continue_as_a_name
unfolding every_parser
returns-clause-continue_as_a_name c = has_tree _ _ 12 refl

pub returns-clause-type_as_a_word : goal.returns-clause-type_as_a_word
unfolding every_parser
returns-clause-type_as_a_word c = has_tree _ _ 10 refl

pub returns-clause-type_as_a_name : goal.returns-clause-type_as_a_name
unfolding every_parser
returns-clause-type_as_a_name c = has_tree _ _ 8 refl
