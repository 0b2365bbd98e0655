use Rattle.std.proofs.Common.{◌≡◌, take}
use Rattle.type_fields.specs.Setting.{freeze_all}
use Rattle.type_fields.proofs.setting.frozen.Given as goal

abbrev pub invariant-loop-row : goal.invariant-loop-row
invariant-loop-row l = l.all.items ≡ freeze_all (take l.row-index l.rows)
