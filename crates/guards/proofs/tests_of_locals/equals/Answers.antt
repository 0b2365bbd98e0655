use Rattle.std.proofs.Common.{sym, ap, ◌∙◌}
use Rattle.std.specs.Prelude.{Some}
use Rattle.luau_tree.specs.View.{view_expr_kind}
use Rattle.luau_tree.proofs.Views.{nil_expr_seen, true_expr_seen, false_expr_seen, number_expr_seen, str_expr_seen}
use Rattle.type_normal.specs.Kinds.{text_type}
use Rattle.type_normal.specs.Operations.{not_free}
use Rattle.report_rules.specs.Guard.{Says, equals}
use Rattle.guards.proofs.TreeFacts.{equals_other, seen}
use Rattle.guards.proofs.tests_of_locals.equals.Goals as goal

pub returns-in-Nil : goal.returns-in-Nil
returns-in-Nil c = ap (λ (s : Says). Some s) c.exactly.ensures ∙ sym (ap (equals c.args.local.0) (ap view_expr_kind c.in-Nil.is ∙ nil_expr_seen))

pub returns-in-True : goal.returns-in-True
returns-in-True c = ap (λ (s : Says). Some s) c.exactly-in-True.ensures ∙ sym (ap (equals c.args.local.0) (ap view_expr_kind c.in-True.is ∙ true_expr_seen))

pub returns-in-False : goal.returns-in-False
returns-in-False c = ap (λ (s : Says). Some s) c.exactly-in-False.ensures ∙ sym (ap (equals c.args.local.0) (ap view_expr_kind c.in-False.is ∙ false_expr_seen))

pub returns-in-Str : goal.returns-in-Str
returns-in-Str c =
    (λ i. Some (record { local = c.args.local.0; when_true = text_type (c.as_slice.ensures i); when_false = not_free (text_type (c.as_slice-in-Str.ensures i)) }))
    ∙ sym (ap (equals c.args.local.0) (ap view_expr_kind c.in-Str.is ∙ str_expr_seen c.in-Str.bytes))

pub returns-in-Number : goal.returns-in-Number
returns-in-Number c = sym (ap (equals c.args.local.0) (ap view_expr_kind c.in-Number.is ∙ number_expr_seen c.in-Number.field-0))

pub returns-in_default : goal.returns-in_default
returns-in_default c =
    sym (equals_other c.args.local.0 c.args.kind.now (view_expr_kind c.args.kind.now) (seen c.args.kind.now) c.in_default.not-Nil c.in_default.not-True c.in_default.not-False c.in_default.not-Number c.in_default.not-Str)
