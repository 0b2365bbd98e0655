use Rattle.std.proofs.Common.{length, sym, ap, ◌∙◌}
use Rattle.std.proofs.lemmas.List.{length-map}
use Rattle.std.proofs.lemmas.List.FromFn.{length-range_with_len}
use Rattle.luau_tree.specs.Nodes.{exprs_in, expr_number, bodies_in, body_number}
use Rattle.tree_numbers.specs.Counting.{first}
use Rattle.tree_numbers.specs.Numbered.{numbered}
use Rattle.tree_numbers.proofs.Counted.{counted_block}
use Rattle.tree_numbers.proofs.laws.numbers_stand_in_the_order_of_the_text.Goals as goal

pub returns-clause-exprs : goal.returns-clause-exprs
returns-clause-exprs c block = (counted_block block first).exprs

pub returns-clause-bodies : goal.returns-clause-bodies
returns-clause-bodies c block = (counted_block block first).bodies

pub returns-clause-as_many_exprs : goal.returns-clause-as_many_exprs
returns-clause-as_many_exprs c block =
    sym (length-map (exprs_in (numbered block)) expr_number) ∙ ap length (counted_block block first).exprs ∙ length-range_with_len 0 _

pub returns-clause-as_many_bodies : goal.returns-clause-as_many_bodies
returns-clause-as_many_bodies c block =
    sym (length-map (bodies_in (numbered block)) body_number) ∙ ap length (counted_block block first).bodies ∙ length-range_with_len 0 _
