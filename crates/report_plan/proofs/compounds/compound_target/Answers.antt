use Rattle.std.proofs.Common.{arith}
use Rattle.std.proofs.lemmas.Result.{on_ok_weaker}
use Rattle.luau_tree.specs.View.{view_expr}
use Rattle.report_plan.proofs.WriteForms.{compound_target}
use Rattle.report_plan.proofs.Plans.{put_as, put_both}
use Rattle.report_plan.proofs.compounds.compound_target.Goals as goal

pub returns : goal.returns
returns c =
    on_ok_weaker c.before_compound.result (λ p. put_as _ _ _ _ _ _
    (λ rules seen work. compound_target rules seen c.args.op (view_expr c.args.added.now) (view_expr c.args.e.now) work) (omega arith)
    (put_both _ _ _ _ _ _ _ (put_both _ _ _ _ _ _ _ c.in_ok-plan.ensures c.in_ok-parts.ensures) p)) c.before_compound.ensures
