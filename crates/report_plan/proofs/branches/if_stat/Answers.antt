use Rattle.std.proofs.Common.{arith}
use Rattle.std.proofs.lemmas.Result.{on_ok_weaker}
use Rattle.luau_tree.specs.View.{view_arms, view_maybe_block}
use Rattle.report_plan.proofs.StatForms.{if_form}
use Rattle.report_plan.proofs.Plans.{put_as, put_both}
use Rattle.report_plan.proofs.branches.if_stat.Goals as goal

pub returns : goal.returns
returns c =
    on_ok_weaker c.plan-2.result (λ p span. put_as _ _ _ _ _ _
    (λ rules seen work. if_form rules seen span (view_arms c.args.arms.now) (view_maybe_block c.args.last.now) work) (omega arith)
    (put_both _ _ _ _ _ _ _ (put_both _ _ _ _ _ _ _ (put_both _ _ _ _ _ _ _ c.in_ok-plan.ensures c.in_ok-each_arm.ensures) c.in_ok-last_block.ensures) p)) c.plan-2.ensures
