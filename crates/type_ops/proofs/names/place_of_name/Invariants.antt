use Rattle.std.proofs.Common.{◌≡◌, drop}
use Rattle.type_ops.specs.Lists.{name_place}
use Rattle.type_ops.proofs.NameFacts.{farther}
use Rattle.type_ops.proofs.names.place_of_name.Given as goal

abbrev pub invariant-loop-i : goal.invariant-loop-i
invariant-loop-i l = name_place l.name l.fields ≡ farther l.i (name_place l.name (drop l.i l.fields))
