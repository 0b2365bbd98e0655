use Rattle.std.proofs.Common.{arith}
use Rattle.std.proofs.lemmas.Result.{on_ok_weaker}
use Rattle.luau_tree.specs.View.{view_expr, view_exprs}
use Rattle.report_plan.proofs.FoundForms.{call_parts}
use Rattle.report_plan.proofs.Loads.{found_loads}
use Rattle.report_plan.proofs.Plans.{put_as, put_both}
use Rattle.report_plan.proofs.reports.call.Goals as goal

pub returns : goal.returns
returns c =
    on_ok_weaker c.each_arg.result (λ p how id span. put_as _ _ _ _ _ _
    (λ rules seen work. call_parts rules seen how id span (view_expr c.args.callee.now) (view_exprs c.args.args.now) work) (omega (arith, found_loads (view_exprs c.args.args.now)))
    (put_both _ _ _ _ _ _ _ c.in_ok-plan.ensures p)) c.each_arg.ensures
