use Rattle.std.proofs.Common.{refl, arith}
use Rattle.std.proofs.lemmas.Result.{on_ok_weaker}
use Rattle.report_plan.proofs.Plans.{put_as}
use Rattle.report_plan.proofs.compounds.field_changed.Goals as goal

pub returns : goal.returns
returns c = on_ok_weaker c.plan.result (λ p. put_as _ _ _ _ _ _ (λ rules seen work. refl) (omega arith) p) c.plan.ensures
