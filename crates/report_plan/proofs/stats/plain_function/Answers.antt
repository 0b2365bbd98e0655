use Rattle.std.proofs.Common.{arith}
use Rattle.std.proofs.lemmas.Result.{on_ok_weaker}
use Rattle.luau_tree.specs.View.{view_body, view_expr}
use Rattle.report_plan.proofs.StatForms.{function_form}
use Rattle.report_plan.proofs.Plans.{put_as}
use Rattle.report_plan.proofs.stats.plain_function.Goals as goal

pub returns : goal.returns
returns c = on_ok_weaker c.plan.result (λ p span. put_as _ _ _ _ _ _ (λ rules seen work. function_form rules seen span (view_expr c.args.path.now) (view_body c.args.body.now) work) (omega arith) p) c.plan.ensures
