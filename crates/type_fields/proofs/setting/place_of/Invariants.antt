use Rattle.std.proofs.Common.{◌≡◌, ◌+◌, drop}
use Rattle.type_fields.specs.Setting.{name_place}
use Rattle.type_fields.proofs.setting.place_of.Given as goal

abbrev pub invariant-loop-i : goal.invariant-loop-i
invariant-loop-i l = name_place l.name l.fields ≡ l.i + name_place l.name (drop l.i l.fields)
