use Rattle.std.proofs.Common.{arith}
use Rattle.std.proofs.lemmas.Result.{on_ok_weaker}
use Rattle.luau_tree.specs.View.{view_exprs}
use Rattle.report_plan.proofs.EvForms.{interp_form}
use Rattle.report_plan.proofs.Loads.{before_loads}
use Rattle.report_plan.proofs.Plans.{put_as, put_both}
use Rattle.report_plan.proofs.exprs.interp.Goals as goal

pub returns : goal.returns
returns c =
    on_ok_weaker c.plan-2.result (λ p id texts. put_as _ _ _ _ _ _
    (λ rules seen work. interp_form rules seen id texts (view_exprs c.args.parts.now) work) (omega (arith, before_loads (view_exprs c.args.parts.now)))
    (put_both _ _ _ _ _ _ _ (put_both _ _ _ _ _ _ _ c.in_ok-plan.ensures c.in_ok-each.ensures) p)) c.plan-2.ensures
