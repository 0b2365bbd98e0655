use Rattle.std.proofs.Common.{arith}
use Rattle.std.proofs.lemmas.Result.{on_ok_weaker}
use Rattle.luau_tree.specs.View.{view_stat}
use Rattle.report_plan.proofs.Loads.{stat_load}
use Rattle.report_plan.proofs.kinds.stat.Goals as goal

pub returns-clause-work : goal.returns-clause-work
returns-clause-work c = on_ok_weaker c.form.result (λ p rules seen work. p.work rules seen work) c.form.ensures

pub returns-clause-light : goal.returns-clause-light
returns-clause-light c = on_ok_weaker c.form.result (λ p. omega (arith, p.light, stat_load (view_stat c.args.s.now))) c.form.ensures
