use Rattle.std.proofs.Common.{arith}
use Rattle.std.proofs.lemmas.Result.{on_ok_weaker}
use Rattle.luau_tree.specs.View.{view_exprs}
use Rattle.report_plan.proofs.FoundForms.{interp_parts}
use Rattle.report_plan.proofs.Loads.{found_loads}
use Rattle.report_plan.proofs.Plans.{put_as}
use Rattle.report_plan.proofs.reports.interp.Goals as goal

pub returns : goal.returns
returns c =
    on_ok_weaker c.each.result (λ p how id span texts. put_as _ _ _ _ _ _
    (λ rules seen work. interp_parts rules seen how id span texts (view_exprs c.args.parts.now) work) (omega (arith, found_loads (view_exprs c.args.parts.now))) p) c.each.ensures
