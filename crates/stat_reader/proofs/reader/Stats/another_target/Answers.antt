use Rattle.std.proofs.Common.{refl}
use Rattle.luau_tree.specs.View.{view_expr}
use Rattle.phrase_reader.proofs.Steps.{one_more, ok_same}
use Rattle.stat_reader.proofs.reader.Stats.another_target.Goals as goal

pub returns : goal.returns
returns g c = rw (c.in_ok-_comma.ensures, c.in_ok-e.ensures) (ok_same _ _ _ _ refl (one_more view_expr _ _ _ c.in_ok-push.ensures.ok))
