use Rattle.std.proofs.Common.{arith}
use Rattle.std.proofs.lemmas.Result.{on_ok_weaker}
use Rattle.luau_tree.specs.View.{view_expr}
use Rattle.report_plan.proofs.EvForms.{paren_form, assert_form}
use Rattle.report_plan.proofs.Plans.{put_as}
use Rattle.report_plan.proofs.exprs.inner.Goals as goal

pub returns-clause-paren : goal.returns-clause-paren
returns-clause-paren c = on_ok_weaker c.plan.result (λ p id. put_as _ _ _ _ _ _ (λ rules seen work. paren_form rules seen id (view_expr c.args.e.now) work) (omega arith) p) c.plan.ensures

pub returns-clause-assert : goal.returns-clause-assert
returns-clause-assert c = on_ok_weaker c.plan.result (λ p id syntax. put_as _ _ _ _ _ _ (λ rules seen work. assert_form rules seen id (view_expr c.args.e.now) syntax work) (omega arith) p) c.plan.ensures
