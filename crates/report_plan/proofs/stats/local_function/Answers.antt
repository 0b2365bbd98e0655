use Rattle.std.proofs.Common.{List, ap, ◌∙◌, arith}
use Rattle.std.proofs.lemmas.Result.{on_ok_weaker}
use Rattle.luau_tree.specs.declared.tree as code
use Rattle.luau_tree.specs.View.{view_bind, view_binds, view_body}
use Rattle.report_work.specs.Found.{with_body}
use Rattle.report_work.specs.Statements.{undeclared}
use Rattle.report_plan.proofs.StatForms.{local_function_form}
use Rattle.report_plan.proofs.Plans.{put_as}
use Rattle.report_plan.proofs.stats.local_function.Goals as goal

pub returns : goal.returns
returns c =
    on_ok_weaker c.plan.result (λ p span. put_as _ _ _ _ _ _
    (λ rules seen work.
    ap (λ (binds : List code.Bind.Bind). undeclared rules (view_binds binds) (with_body rules seen (view_body c.args.body.now) work)) c.from_ref.ensures.value
    ∙ local_function_form rules seen span (view_bind c.args.name.now) (view_body c.args.body.now) work)
    (omega arith) p) c.plan.ensures
