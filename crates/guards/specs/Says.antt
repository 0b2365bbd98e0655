-- What tests say, as code has it.
use Rattle.std.specs.Prelude.{ℕ, Option, None, if◌then◌else◌}
use Rattle.luau_tree.specs.Tree.{Expr, Exprs, no_exprs, more_exprs}
use Rattle.report_rules.specs.Rules.{Rules}
use Rattle.report_rules.specs.Guard.{Says, firm_local, is_type}
use Rattle.guards.specs.Claims.{claim_type}
use Rattle.guards.specs.declared.tests_of_locals.Test.{Test}

-- what a test says
abbrev pub says_of : Test → Says
says_of test = record { local = test.local.0; when_true = claim_type test.when_true; when_false = claim_type test.when_false }

-- the local x where a call is `type(x)`
abbrev pub subject_in : Rules → Expr → Exprs → Option ℕ
subject_in rules callee (more_exprs e no_exprs) = if is_type rules callee then firm_local rules e else None
subject_in rules callee _ = None
