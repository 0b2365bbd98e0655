use Rattle.luau_tree.proofs.SortedLemmas.{all_there, no_other}
use Rattle.luau_tree.proofs.sorting.sorted_values_are_the_values.Goals as goal

pub returns : goal.returns
returns g c = λ cmp o exact values value. (no_other o exact values value, all_there o exact values value)
