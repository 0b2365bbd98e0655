use Rattle.std.proofs.Common.{arith}
use Rattle.std.proofs.lemmas.Result.{on_ok_weaker}
use Rattle.luau_tree.specs.View.{view_expr}
use Rattle.report_plan.proofs.WriteForms.{compound_form}
use Rattle.report_plan.proofs.Loads.{form_load}
use Rattle.report_plan.proofs.Plans.{put_as, put_both}
use Rattle.report_plan.proofs.compounds.compound.Goals as goal

pub returns : goal.returns
returns c =
    on_ok_weaker c.plan.result (λ p span. put_as _ _ _ _ _ _
    (λ rules seen work. compound_form rules seen span (view_expr c.args.target.now) c.args.op (view_expr c.args.e.now) work)
    (omega (arith, form_load (view_expr c.args.target.now))) (put_both _ _ _ _ _ _ _ c.in_ok-compound_target.ensures p)) c.plan.ensures
