use Rattle.std.proofs.Common.{sym, ◌∙◌}
use Rattle.guards.proofs.TreeFacts.{firm_of_name, firm_of_other}
use Rattle.guards.proofs.naming.firm_local.Goals as goal

pub returns-in-Name : goal.returns-in-Name
returns-in-Name c rules reads = c.firm_named.ensures rules reads ∙ sym (firm_of_name c.args.e.now c.in-Name.field-0 c.in-Name.is rules)

pub returns-in_default : goal.returns-in_default
returns-in_default c rules reads = sym (firm_of_other c.args.e.now c.in_default.not-Name rules)
