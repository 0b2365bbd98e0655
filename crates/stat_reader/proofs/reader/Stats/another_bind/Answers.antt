use Rattle.std.proofs.Common.{refl}
use Rattle.luau_tree.specs.View.{view_bind}
use Rattle.phrase_reader.proofs.Steps.{one_more, ok_same}
use Rattle.stat_reader.proofs.reader.Stats.another_bind.Goals as goal

pub returns : goal.returns
returns g c = rw (c.in_ok-_comma.ensures, c.in_ok-x.ensures) (ok_same _ _ _ _ refl (one_more view_bind _ _ _ c.in_ok-push.ensures.ok))
