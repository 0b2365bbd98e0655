use Rattle.std.proofs.Common.{arith}
use Rattle.std.proofs.lemmas.Result.{on_ok_weaker}
use Rattle.luau_tree.specs.View.{view_expr}
use Rattle.report_plan.proofs.EvForms.{unary_form}
use Rattle.report_plan.proofs.Plans.{put_as}
use Rattle.report_plan.proofs.exprs.unary.Goals as goal

pub returns : goal.returns
returns c = on_ok_weaker c.plan.result (λ p id. put_as _ _ _ _ _ _ (λ rules seen work. unary_form rules seen id c.args.op (view_expr c.args.e.now) work) (omega arith) p) c.plan.ensures
