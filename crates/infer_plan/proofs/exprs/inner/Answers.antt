use Rattle.std.proofs.Common.{ap, ◌∙◌, arith}
use Rattle.std.proofs.lemmas.Result.{on_ok_weaker}
use Rattle.luau_tree.specs.View.{view_expr, view_exprs}
use Rattle.infer_plan.specs.Run.{run}
use Rattle.infer_plan.proofs.ExprForms.{paren_form, assert_form}
use Rattle.infer_plan.proofs.exprs.inner.Goals as goal

pub returns-clause-paren : goal.returns-clause-paren
returns-clause-paren c = on_ok_weaker c.plan.result (λ made rules id work. made rules work ∙ ap (run rules c.args.tasks.now.items) (paren_form rules id (view_expr c.args.e.now) work)) c.plan.ensures.work

pub returns-clause-assert : goal.returns-clause-assert
returns-clause-assert c = on_ok_weaker c.plan.result (λ made rules id syntax work. made rules work ∙ ap (run rules c.args.tasks.now.items) (assert_form rules id (view_expr c.args.e.now) syntax work)) c.plan.ensures.work

pub returns-clause-light : goal.returns-clause-light
returns-clause-light c = on_ok_weaker c.plan.result (λ light. omega (arith, light)) c.plan.ensures.light
