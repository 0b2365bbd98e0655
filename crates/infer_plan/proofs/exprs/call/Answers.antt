use Rattle.std.proofs.Common.{ap, ◌∙◌, arith}
use Rattle.std.proofs.lemmas.Result.{on_ok_weaker}
use Rattle.luau_tree.specs.View.{view_expr, view_exprs}
use Rattle.infer_plan.specs.Run.{run}
use Rattle.infer_plan.proofs.ExprForms.{call_at}
use Rattle.infer_plan.proofs.exprs.call.Goals as goal

pub returns-clause-work : goal.returns-clause-work
returns-clause-work c = on_ok_weaker c.plan.result (λ made rules id span work is. made rules work ∙ ap (run rules c.args.tasks.now.items) (call_at rules (view_expr c.args.e.now) id span (view_expr c.args.callee.now) (view_exprs c.args.args.now) work is)) c.plan.ensures.work

pub returns-clause-light : goal.returns-clause-light
returns-clause-light c = on_ok_weaker c.plan.result (λ light. omega (arith, light)) c.plan.ensures.light
