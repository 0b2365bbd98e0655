use Rattle.std.proofs.Common.{sym, ap, ◌∙◌}
use Rattle.std.specs.Prelude.{Some}
use Rattle.luau_tree.specs.View.{view_expr_kind}
use Rattle.luau_tree.proofs.Views.{str_expr_seen}
use Rattle.report_rules.specs.Guard.{Says, kind_equals, kind_says}
use Rattle.guards.proofs.TreeFacts.{kind_says_other, seen}
use Rattle.guards.proofs.tests_of_locals.kind_is.Goals as goal

pub returns-in-Str : goal.returns-in-Str
returns-in-Str c =
    ap (λ (s : Says). Some s) (c.kind_equals.ensures ∙ ap (kind_equals c.args.local.0) c.as_slice.ensures)
    ∙ sym (ap (kind_says (Some c.args.local.0)) (ap view_expr_kind c.in-Str.is ∙ str_expr_seen c.in-Str.name))

pub returns-in_default : goal.returns-in_default
returns-in_default c = sym (kind_says_other c.args.local.0 c.args.kind.now (view_expr_kind c.args.kind.now) (seen c.args.kind.now) c.in_default.not-Str)
