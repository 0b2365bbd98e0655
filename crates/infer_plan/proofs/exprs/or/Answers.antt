use Rattle.std.proofs.Common.{ap, ◌∙◌, arith}
use Rattle.std.proofs.lemmas.Result.{on_ok_weaker}
use Rattle.luau_tree.specs.View.{view_expr}
use Rattle.infer_plan.specs.Run.{run}
use Rattle.infer_plan.proofs.ExprForms.{or_form}
use Rattle.infer_plan.proofs.exprs.or.Goals as goal

pub returns-clause-work : goal.returns-clause-work
returns-clause-work c = on_ok_weaker c.plan.result (λ made rules id work. made rules work ∙ ap (run rules c.args.tasks.now.items) (or_form rules id (view_expr c.args.left.now) (view_expr c.args.right.now) work)) c.plan.ensures.work

pub returns-clause-light : goal.returns-clause-light
returns-clause-light c = on_ok_weaker c.plan.result (λ light. omega (arith, light)) c.plan.ensures.light
