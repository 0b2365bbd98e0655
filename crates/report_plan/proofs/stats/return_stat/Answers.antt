use Rattle.std.proofs.Common.{arith}
use Rattle.std.proofs.lemmas.Result.{on_ok_weaker}
use Rattle.luau_tree.specs.View.{view_exprs}
use Rattle.report_plan.proofs.StatForms.{return_form}
use Rattle.report_plan.proofs.Loads.{passed_loads}
use Rattle.report_plan.proofs.Plans.{put_as, put_both}
use Rattle.report_plan.proofs.stats.return_stat.Goals as goal

pub returns : goal.returns
returns c = on_ok_weaker c.plan.result (λ p span. put_as _ _ _ _ _ _ (λ rules seen work. return_form rules seen span (view_exprs c.args.values.now) work) (omega (arith, passed_loads (view_exprs c.args.values.now))) (put_both _ _ _ _ _ _ _ c.in_ok-each.ensures p)) c.plan.ensures
