use Rattle.luau_tree.proofs.SortedLemmas.{in_order}
use Rattle.luau_tree.proofs.sorting.sorted_values_are_in_order.Goals as goal

pub returns : goal.returns
returns g c = λ cmp o values. in_order o values
