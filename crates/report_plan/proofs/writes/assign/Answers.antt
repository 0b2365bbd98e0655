use Rattle.std.proofs.Common.{arith}
use Rattle.std.proofs.lemmas.Result.{on_ok_weaker}
use Rattle.luau_tree.specs.View.{view_exprs}
use Rattle.report_plan.proofs.WriteForms.{assign_form}
use Rattle.report_plan.proofs.Loads.{targets_loads}
use Rattle.report_plan.proofs.Plans.{put_as, put_both}
use Rattle.report_plan.proofs.writes.assign.Goals as goal

pub returns : goal.returns
returns c =
    on_ok_weaker c.plan-3.result (λ p span. put_as _ _ _ _ _ _
    (λ rules seen work. assign_form rules seen span (view_exprs c.args.targets.now) (view_exprs c.args.values.now) work) (omega (arith, targets_loads (view_exprs c.args.targets.now)))
    (put_both _ _ _ _ _ _ _ (put_both _ _ _ _ _ _ _ (put_both _ _ _ _ _ _ _ (put_both _ _ _ _ _ _ _ (put_both _ _ _ _ _ _ _ (put_both _ _ _ _ _ _ _
    c.in_ok-each_target.ensures c.in_ok-plan.ensures) c.in_ok-each_assigned.ensures) c.in_ok-each_written.ensures) c.in_ok-plan-2.ensures) c.in_ok-each_kept.ensures) p)) c.plan-3.ensures
