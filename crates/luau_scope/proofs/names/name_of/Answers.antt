use Rattle.std.proofs.Common.{sym, ap}
use Rattle.luau_scope.specs.Steps.{name_in}
use Rattle.luau_scope.proofs.NameForms.{name_seen, unnamed}
use Rattle.luau_scope.proofs.names.name_of.Goals as goal

pub returns-in-Name : goal.returns-in-Name
returns-in-Name c = sym (ap name_in (name_seen c.args.e.now c.in-Name.name c.in-Name.is))

pub returns-in_default : goal.returns-in_default
returns-in_default c = sym (unnamed c.args.e.now c.in_default.not-Name)
