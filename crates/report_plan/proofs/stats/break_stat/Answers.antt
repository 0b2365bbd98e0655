use Rattle.std.proofs.Common.{arith}
use Rattle.std.proofs.lemmas.Result.{on_ok_weaker}
use Rattle.report_plan.proofs.StatForms.{break_form}
use Rattle.report_plan.proofs.Plans.{put_as}
use Rattle.report_plan.proofs.stats.break_stat.Goals as goal

pub returns : goal.returns
returns c = on_ok_weaker c.plan.result (λ p span. put_as _ _ _ _ _ _ (λ rules seen work. break_form rules seen span work) (omega arith) p) c.plan.ensures
