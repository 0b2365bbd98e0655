use Rattle.luau_scope.proofs.VisitLocals.{a_value}
use Rattle.luau_scope.proofs.visit_locals.first_given.Goals as goal

pub returns-in-len1-up-clause-first : goal.returns-in-len1-up-clause-first
returns-in-len1-up-clause-first c = a_value c.args.given.now c.e-item.result c.in-len1-up.len_at_least c.e-item.is
