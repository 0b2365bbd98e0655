use Rattle.std.proofs.Common.{arith}
use Rattle.std.proofs.lemmas.Result.{on_ok_weaker}
use Rattle.luau_tree.specs.View.{view_expr}
use Rattle.report_plan.proofs.EvForms.{or_form}
use Rattle.report_plan.proofs.Plans.{put_as}
use Rattle.report_plan.proofs.exprs.or.Goals as goal

pub returns : goal.returns
returns c = on_ok_weaker c.plan.result (λ p id. put_as _ _ _ _ _ _ (λ rules seen work. or_form rules seen id (view_expr c.args.left.now) (view_expr c.args.right.now) work) (omega arith) p) c.plan.ensures
