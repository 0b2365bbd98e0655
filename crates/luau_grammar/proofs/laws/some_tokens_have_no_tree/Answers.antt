use Rattle.std.proofs.Common.{refl}
use Rattle.luau_grammar.proofs.Computed.{every_parser, has_no_tree, has_no_strict_tree}
use Rattle.luau_grammar.proofs.laws.some_tokens_have_no_tree.Goals as goal

pub returns-clause-expression : goal.returns-clause-expression
unfolding every_parser
returns-clause-expression c = has_no_tree _ _ refl

pub returns-clause-two_expressions : goal.returns-clause-two_expressions
unfolding every_parser
returns-clause-two_expressions c = has_no_tree _ _ refl

pub returns-clause-assignment_to_a_call : goal.returns-clause-assignment_to_a_call
unfolding every_parser
returns-clause-assignment_to_a_call c = has_no_tree _ _ refl

pub returns-clause-compound_assignment_to_a_call : goal.returns-clause-compound_assignment_to_a_call
unfolding every_parser
returns-clause-compound_assignment_to_a_call c = has_no_tree _ _ refl

pub returns-clause-statement_behind_the_last : goal.returns-clause-statement_behind_the_last
unfolding every_parser
returns-clause-statement_behind_the_last c = has_no_tree _ _ refl

pub returns-clause-call_over_lines : goal.returns-clause-call_over_lines
unfolding every_parser
returns-clause-call_over_lines c = has_no_strict_tree _ _ _ refl
