use Rattle.std.proofs.Common.{◌≡◌, take}
use Rattle.type_fields.specs.Setting.{set_rows}
use Rattle.type_fields.proofs.setting.set_all.Given as goal

abbrev pub invariant-loop-row : goal.invariant-loop-row
invariant-loop-row l = l.all.items ≡ set_rows l.name l.value (take l.row-index l.rows)
