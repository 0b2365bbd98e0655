use Rattle.luau_tree.proofs.SortedLemmas.{determined}
use Rattle.luau_tree.proofs.sorting.sorted_values_are_determined.Goals as goal

pub returns : goal.returns
returns g c = λ cmp o exact values other s same. determined o exact values other s (λ q. (same q).0) (λ q. (same q).1)
