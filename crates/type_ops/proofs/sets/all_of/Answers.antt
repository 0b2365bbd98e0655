use Rattle.std.proofs.Common.{◌∙◌}
use Rattle.type_ops.proofs.SetFacts.{all_made}
use Rattle.type_ops.proofs.sets.all_of.Goals as goal

pub returns : goal.returns
returns g c =
    c.of.ensures
    ∙ all_made g.T.Ord.cmp c.args.xs c.args.ys _ _ _ _ _ c.into_vec-2.ensures c.into_vec.ensures c.new-all.ensures.items c.in_ok-fill.ensures c.in_ok-fill-2.ensures
