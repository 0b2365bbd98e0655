use Rattle.std.proofs.Common.{◌≡◌, vec_len}
use Rattle.type_ops.specs.Sets.{put_all}
use Rattle.type_ops.proofs.sets.fill.Given as goal

abbrev pub invariant-loop-x : goal.invariant-loop-x
invariant-loop-x g l = put_all g.T.Ord.cmp l.xs.items l.all.items ≡ put_all g.T.Ord.cmp l.initial.xs.items l.initial.all.items

abbrev pub decreases-loop-x : goal.decreases-loop-x
decreases-loop-x g l = vec_len l.xs
