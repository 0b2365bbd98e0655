use Rattle.std.proofs.Common.{arith}
use Rattle.std.proofs.lemmas.Result.{on_ok_weaker}
use Rattle.luau_tree.specs.View.{view_binds, view_exprs}
use Rattle.report_plan.proofs.WriteForms.{local_form}
use Rattle.report_plan.proofs.Plans.{put_as, put_both}
use Rattle.report_plan.proofs.writes.local_stat.Goals as goal

pub returns : goal.returns
returns c =
    on_ok_weaker c.plan-2.result (λ p span. put_as _ _ _ _ _ _
    (λ rules seen work. local_form rules seen span (view_binds c.args.binds.now) (view_exprs c.args.values.now) work) (omega arith)
    (put_both _ _ _ _ _ _ _ (put_both _ _ _ _ _ _ _ c.in_ok-plan.ensures c.in_ok-each_declared.ensures) p)) c.plan-2.ensures
