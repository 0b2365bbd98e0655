use Rattle.luau_grammar.proofs.Families.{strict_one_tree, lenient_one_tree, bounded_one_tree}
use Rattle.luau_grammar.proofs.laws.tokens_have_one_tree_at_most.Goals as goal

pub returns-clause-strict : goal.returns-clause-strict
returns-clause-strict c = strict_one_tree

pub returns-clause-up_to_a_level : goal.returns-clause-up_to_a_level
returns-clause-up_to_a_level c = lenient_one_tree

pub returns-clause-bounded : goal.returns-clause-bounded
returns-clause-bounded c = bounded_one_tree
