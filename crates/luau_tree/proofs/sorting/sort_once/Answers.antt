use Rattle.std.proofs.Common.{Bool, List, ◌∙◌, ap, sym, subst}
use Rattle.std.specs.List.{dedup}
use Rattle.std.specs.List.Sorted.{IsSorted}
use Rattle.std.proofs.lemmas.List.Filters.{dedup_is}
use Rattle.luau_tree.proofs.SortedLemmas.{sorted_and_deduped, sorted_by-IsSorted}
use Rattle.luau_tree.proofs.sorting.sort_once.Goals as goal

-- `==` holds where two values tie
pub returns-clause-values : goal.returns-clause-values
returns-clause-values g c =
    let moved = c.sort_unstable.new.self.items in
    dedup_is _ _ _ c.dedup.ensures.filtered
    ∙ ap (λ (eq : g.row.T.Denot → g.row.T.Denot → Bool). dedup eq moved) (λ i a b. g.met.T.Ord.matches_eq a b i)
    ∙ sorted_and_deduped g.met.T.Ord.total c.requires c.args.values.items moved c.sort_unstable.ensures.permutation c.sort_unstable.ensures.sorted

pub returns-clause-order : goal.returns-clause-order
returns-clause-order g c = subst (λ (kept : List g.row.T.Denot). IsSorted g.T.Ord.cmp kept) (sym (returns-clause-values g c)) (sorted_by-IsSorted g.met.T.Ord.total c.args.values.items)
