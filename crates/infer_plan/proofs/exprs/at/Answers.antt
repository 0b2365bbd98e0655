use Rattle.std.proofs.Common.{ap, ◌∙◌, arith}
use Rattle.std.proofs.lemmas.Result.{on_ok_weaker}
use Rattle.luau_tree.specs.View.{view_expr, view_exprs}
use Rattle.infer_plan.specs.Run.{run}
use Rattle.infer_plan.proofs.ExprForms.{at_form}
use Rattle.infer_plan.proofs.exprs.at.Goals as goal

pub returns-clause-work : goal.returns-clause-work
returns-clause-work c = on_ok_weaker c.plan.result (λ made rules id work. made rules work ∙ ap (run rules c.args.tasks.now.items) (c.element_task.ensures.work rules _ ∙ at_form rules id (view_expr c.args.base.now) (view_expr c.args.key.now) work)) c.plan.ensures.work

pub returns-clause-light : goal.returns-clause-light
returns-clause-light c = on_ok_weaker c.plan.result (λ light. omega (arith, light, c.element_task.ensures.light)) c.plan.ensures.light
