use Rattle.std.proofs.Common.{arith}
use Rattle.std.proofs.lemmas.Result.{on_ok_weaker}
use Rattle.luau_tree.specs.View.{view_choices, view_expr}
use Rattle.report_plan.proofs.FoundForms.{if_else_parts}
use Rattle.report_plan.proofs.Plans.{put_as, put_both}
use Rattle.report_plan.proofs.branches.if_else_found.Goals as goal

pub returns : goal.returns
returns c =
    on_ok_weaker c.plan.result (λ p how id span. put_as _ _ _ _ _ _
    (λ rules seen work. if_else_parts rules seen how id span (view_choices c.args.choices.now) (view_expr c.args.last.now) work) (omega arith)
    (put_both _ _ _ _ _ _ _ c.in_ok-each_choice_found.ensures p)) c.plan.ensures
