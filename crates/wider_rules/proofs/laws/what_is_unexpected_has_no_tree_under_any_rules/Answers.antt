use Rattle.std.specs.Prelude.{length}
use Rattle.luau_grammar.specs.declared.error.ParseError.TheVariants.{Unexpected, UnexpectedEnd}
use Rattle.luau_grammar.specs.Modules.{max_level, on_one_line}
use Rattle.wider_rules.proofs.Runs.{no_tree_at_all}
use Rattle.wider_rules.proofs.laws.what_is_unexpected_has_no_tree_under_any_rules.Goals as goal

pub returns-clause-at_a_token : goal.returns-clause-at_a_token
returns-clause-at_a_token c = λ text ts at h. no_tree_at_all (λ l t. on_one_line text l t.span.start) (length text) max_level ts (Unexpected at) tt h

pub returns-clause-at_the_end : goal.returns-clause-at_the_end
returns-clause-at_the_end c = λ text ts at h. no_tree_at_all (λ l t. on_one_line text l t.span.start) (length text) max_level ts (UnexpectedEnd at) tt h
