use Rattle.std.proofs.Common.{sym, ap, ◌∙◌}
use Rattle.type_ops.specs.Sets.{put_all}
use Rattle.type_ops.proofs.PlaceFacts.{put_all_last}
use Rattle.type_ops.proofs.sets.fill.Goals as goal

pub loop-x-preserved : goal.loop-x-preserved
loop-x-preserved g c =
    ap (put_all g.T.Ord.cmp c.pop.new.self.items) c.in_ok-put_in.ensures
    ∙ sym (put_all_last g.T.Ord.cmp c.pop.new.self.items c.in-Some.x c.loop-x.all.items)
    ∙ sym (ap (λ xs. put_all g.T.Ord.cmp xs c.loop-x.all.items) c.in-Some.ensures.items)
    ∙ c.loop-x.invariant
