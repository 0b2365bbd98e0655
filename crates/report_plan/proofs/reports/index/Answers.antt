use Rattle.std.proofs.Common.{arith}
use Rattle.std.proofs.lemmas.Result.{on_ok_weaker}
use Rattle.luau_tree.specs.View.{view_expr}
use Rattle.report_plan.specs.Run.{check_meant}
use Rattle.report_plan.proofs.FoundForms.{index_parts}
use Rattle.report_plan.proofs.Plans.{put_as}
use Rattle.report_plan.proofs.reports.index.Goals as goal

pub returns : goal.returns
returns c = on_ok_weaker c.plan.result (λ p id span name. put_as _ _ _ _ _ _ (λ rules seen work. index_parts rules seen (check_meant rules c.args.how) id span (view_expr c.args.base.now) name work) (omega arith) p) c.plan.ensures
