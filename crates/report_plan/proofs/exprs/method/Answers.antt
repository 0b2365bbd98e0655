use Rattle.std.proofs.Common.{arith}
use Rattle.std.proofs.lemmas.Result.{on_ok_weaker}
use Rattle.luau_tree.specs.View.{view_expr, view_exprs}
use Rattle.report_plan.proofs.EvForms.{method_form}
use Rattle.report_plan.proofs.Loads.{before_loads}
use Rattle.report_plan.proofs.Plans.{put_as, put_both}
use Rattle.report_plan.proofs.exprs.method.Goals as goal

pub returns : goal.returns
returns c =
    on_ok_weaker c.plan-2.result (λ p id span. put_as _ _ _ _ _ _
    (λ rules seen work. method_form rules seen id (view_expr c.args.base.now) c.args.name.now span (view_exprs c.args.args.now) work) (omega (arith, before_loads (view_exprs c.args.args.now)))
    (put_both _ _ _ _ _ _ _ (put_both _ _ _ _ _ _ _ c.in_ok-plan.ensures c.in_ok-each.ensures) p)) c.plan-2.ensures
