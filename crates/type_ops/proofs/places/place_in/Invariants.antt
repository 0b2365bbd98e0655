use Rattle.std.proofs.Common.{◌≡◌, drop}
use Rattle.type_ops.specs.Places.{place}
use Rattle.type_ops.proofs.PlaceFacts.{moved}
use Rattle.type_ops.proofs.places.place_in.Given as goal

abbrev pub invariant-loop-i : goal.invariant-loop-i
invariant-loop-i g l = place (g.T.Ord.cmp l.x) l.list ≡ moved l.i (place (g.T.Ord.cmp l.x) (drop l.i l.list))
