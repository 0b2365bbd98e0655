use Rattle.std.proofs.Common.{◌≡◌, take}
use Rattle.type_fields.specs.Setting.{without_name}
use Rattle.type_fields.proofs.setting.others.Given as goal

abbrev pub invariant-loop-field : goal.invariant-loop-field
invariant-loop-field l = l.all.items ≡ without_name l.name (take l.field-index l.fields)
