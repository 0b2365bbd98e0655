use Rattle.std.proofs.Common.{arith}
use Rattle.std.proofs.lemmas.Result.{on_ok_weaker}
use Rattle.luau_tree.specs.View.{view_items}
use Rattle.report_plan.proofs.EvForms.{table_form}
use Rattle.report_plan.proofs.Plans.{put_as, put_both}
use Rattle.report_plan.proofs.items.table.Goals as goal

pub returns : goal.returns
returns c =
    on_ok_weaker c.plan-2.result (λ p id. put_as _ _ _ _ _ _
    (λ rules seen work. table_form rules seen id (view_items c.args.items.now) work) (omega arith)
    (put_both _ _ _ _ _ _ _ (put_both _ _ _ _ _ _ _ c.in_ok-plan.ensures c.in_ok-each_item.ensures) p)) c.plan-2.ensures
