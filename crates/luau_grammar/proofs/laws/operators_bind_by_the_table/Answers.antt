use Rattle.std.proofs.Common.{refl}
use Rattle.luau_grammar.proofs.Computed.{every_parser, has_tree}
use Rattle.luau_grammar.proofs.laws.operators_bind_by_the_table.Goals as goal

pub returns-clause-power_under_minus : goal.returns-clause-power_under_minus
unfolding every_parser
returns-clause-power_under_minus c = has_tree _ _ 14 refl

pub returns-clause-minus_under_power : goal.returns-clause-minus_under_power
unfolding every_parser
returns-clause-minus_under_power c = has_tree _ _ 14 refl

pub returns-clause-powers_from_the_right : goal.returns-clause-powers_from_the_right
unfolding every_parser
returns-clause-powers_from_the_right c = has_tree _ _ 16 refl

pub returns-clause-joins_from_the_right : goal.returns-clause-joins_from_the_right
unfolding every_parser
returns-clause-joins_from_the_right c = has_tree _ _ 18 refl

pub returns-clause-differences_from_the_left : goal.returns-clause-differences_from_the_left
unfolding every_parser
returns-clause-differences_from_the_left c = has_tree _ _ 16 refl

pub returns-clause-product_in_a_sum : goal.returns-clause-product_in_a_sum
unfolding every_parser
returns-clause-product_in_a_sum c = has_tree _ _ 16 refl

pub returns-clause-not_in_an_equation : goal.returns-clause-not_in_an_equation
unfolding every_parser
returns-clause-not_in_an_equation c = has_tree _ _ 17 refl

pub returns-clause-comparison_in_and : goal.returns-clause-comparison_in_and
unfolding every_parser
returns-clause-comparison_in_and c = has_tree _ _ 18 refl

pub returns-clause-and_in_or : goal.returns-clause-and_in_or
unfolding every_parser
returns-clause-and_in_or c = has_tree _ _ 19 refl
