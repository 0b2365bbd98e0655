use Rattle.std.proofs.Common.{rules, ◌∙◌, ap, List}
use Rattle.std.proofs.lemmas.Fn.{filter_same}
use Rattle.type_normal.specs.Members.{common}
use Rattle.type_ops.proofs.sets.shared.Goals as goal

pub returns : goal.returns
returns g c =
    c.of.ensures ∙ filter_same _ _ _ (λ x b f' k. search rules) _ _ c.retain.ensures.filtered
    ∙ ap (λ xs. common g.T.Ord.cmp xs c.args.ys.now) c.into_vec-kept.ensures
