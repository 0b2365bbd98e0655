use Rattle.std.proofs.Common.{arith}
use Rattle.std.proofs.lemmas.Result.{on_ok_weaker}
use Rattle.luau_tree.specs.View.{view_expr}
use Rattle.report_plan.proofs.FoundForms.{binary_parts}
use Rattle.report_plan.proofs.Plans.{put_as}
use Rattle.report_plan.proofs.reports.binary.Goals as goal

pub returns : goal.returns
returns c = on_ok_weaker c.plan.result (λ p how id span. put_as _ _ _ _ _ _ (λ rules seen work. binary_parts rules seen how id span c.args.op (view_expr c.args.left.now) (view_expr c.args.right.now) work) (omega arith) p) c.plan.ensures
