use Rattle.std.proofs.Common.{refl, arith}
use Rattle.std.proofs.lemmas.Result.{on_ok_weaker}
use Rattle.report_plan.proofs.forms.passed.Goals as goal

pub returns-clause-work : goal.returns-clause-work
returns-clause-work c = on_ok_weaker c.plan.result (λ p rules seen work. p.work rules seen work) c.plan.ensures

pub returns-clause-light : goal.returns-clause-light
returns-clause-light c = on_ok_weaker c.plan.result (λ p. omega (arith, p.light)) c.plan.ensures
