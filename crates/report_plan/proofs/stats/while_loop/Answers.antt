use Rattle.std.proofs.Common.{arith}
use Rattle.std.proofs.lemmas.Result.{on_ok_weaker}
use Rattle.luau_tree.specs.View.{view_block, view_expr, view_stat}
use Rattle.report_plan.proofs.StatForms.{while_at}
use Rattle.report_plan.proofs.Plans.{put_as}
use Rattle.report_plan.proofs.stats.while_loop.Goals as goal

pub returns : goal.returns
returns c = on_ok_weaker c.plan.result (λ p span is. put_as _ _ _ _ _ _ (λ rules seen work. while_at rules seen (view_stat c.args.s.now) span (view_expr c.args.cond.now) (view_block c.args.body.now) work is) (omega arith) p) c.plan.ensures
