use Rattle.std.proofs.Common.{arith}
use Rattle.std.proofs.lemmas.Result.{on_ok_weaker}
use Rattle.luau_tree.specs.View.{view_block}
use Rattle.report_plan.proofs.StatForms.{do_form}
use Rattle.report_plan.proofs.Plans.{put_as}
use Rattle.report_plan.proofs.stats.do_block.Goals as goal

pub returns : goal.returns
returns c = on_ok_weaker c.plan.result (λ p span. put_as _ _ _ _ _ _ (λ rules seen work. do_form rules seen span (view_block c.args.body.now) work) (omega arith) p) c.plan.ensures
