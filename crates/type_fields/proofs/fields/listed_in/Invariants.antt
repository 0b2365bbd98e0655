use Rattle.std.proofs.Common.{◌≡◌, drop}
use Rattle.type_fields.specs.Unions.{listed_ref}
use Rattle.type_fields.proofs.fields.listed_in.Given as goal

abbrev pub invariant-loop-field : goal.invariant-loop-field
invariant-loop-field l = listed_ref l.name l.unlisted l.fields ≡ listed_ref l.name l.unlisted (drop l.field-index l.fields)
