use Rattle.std.proofs.Common.{rules, ◌∙◌, ap, List}
use Rattle.std.proofs.lemmas.Fn.{filter_same}
use Rattle.type_normal.specs.Members.{less}
use Rattle.type_ops.proofs.sets.without.Goals as goal

pub returns : goal.returns
returns g c =
    c.of.ensures ∙ filter_same _ _ _ (λ x b f' k. search rules) _ _ c.retain.ensures.filtered
    ∙ ap (λ xs. less g.T.Ord.cmp xs c.args.ys.now) c.into_vec-kept.ensures
