use Rattle.std.proofs.Common.{◌≡◌, take}
use Rattle.type_fields.specs.Unions.{listed_refs}
use Rattle.type_fields.proofs.fields.listed.Given as goal

abbrev pub invariant-loop-row : goal.invariant-loop-row
invariant-loop-row l = l.types.items ≡ listed_refs l.name l.unlisted (take l.row-index l.rows)
