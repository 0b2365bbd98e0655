use Rattle.std.proofs.Common.{rules, ℕ}
use Rattle.std.proofs.lemmas.List.Sorted.{IsNonDecreasingBy-from_sort_by_key}
use Rattle.std.proofs.lemmas.Result.{IfOk-weaker}
use Rattle.level_workers.proofs.order.in_order.Goals as goal

pub returns : goal.returns
returns g c = IfOk-weaker c.without_numbers.result _ _ (λ xs is. record {
  sorted = c.sort_by_key.new.self.items;
  moved = c.sort_by_key.ensures.permutation;
  rising = IsNonDecreasingBy-from_sort_by_key (λ (o : ℕ × g.row.O.Denot). o.0) _ c.in_ok-sort_by_key.ensures.sorted (λ a r q k. search rules);
  outputs_are = is;
}) c.without_numbers.ensures
