use Rattle.std.proofs.Common.{arith}
use Rattle.std.proofs.lemmas.Result.{on_ok_weaker}
use Rattle.luau_tree.specs.View.{view_block, view_expr, view_stat}
use Rattle.report_plan.proofs.StatForms.{number_at}
use Rattle.report_plan.proofs.Plans.{put_as}
use Rattle.report_plan.proofs.stats.number_loop.Goals as goal

pub returns : goal.returns
returns c = on_ok_weaker c.plan.result (λ p span bind is. put_as _ _ _ _ _ _ (λ rules seen work. number_at rules seen (view_stat c.args.s.now) span bind (view_expr c.args.from.now) (view_expr c.args.to.now) (view_block c.args.body.now) work is) (omega arith) p) c.plan.ensures
