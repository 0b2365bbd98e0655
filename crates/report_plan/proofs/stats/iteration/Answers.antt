use Rattle.std.proofs.Common.{arith}
use Rattle.std.proofs.lemmas.Result.{on_ok_weaker}
use Rattle.luau_tree.specs.View.{view_block, view_exprs, view_stat}
use Rattle.report_plan.proofs.StatForms.{iteration_at}
use Rattle.report_plan.proofs.Plans.{put_as, put_both}
use Rattle.report_plan.proofs.stats.iteration.Goals as goal

pub returns : goal.returns
returns c = on_ok_weaker c.plan.result (λ p span binds is. put_as _ _ _ _ _ _ (λ rules seen work. iteration_at rules seen (view_stat c.args.s.now) span binds (view_exprs c.args.values.now) (view_block c.args.body.now) work is) (omega arith) (put_both _ _ _ _ _ _ _ c.in_ok-each_iterated.ensures p)) c.plan.ensures
