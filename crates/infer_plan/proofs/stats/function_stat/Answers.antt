use Rattle.std.proofs.Common.{ap, ◌∙◌, arith}
use Rattle.std.proofs.lemmas.Result.{on_ok_weaker}
use Rattle.luau_tree.specs.View.{view_body, view_expr}
use Rattle.infer_plan.specs.Run.{run}
use Rattle.infer_plan.proofs.StatForms.{function_at}
use Rattle.infer_plan.proofs.stats.function_stat.Goals as goal

pub returns-clause-work : goal.returns-clause-work
returns-clause-work c = on_ok_weaker c.plan.result (λ made rules span work is. made rules work ∙ ap (run rules c.args.tasks.now.items) (function_at rules _ span (view_expr c.args.path.now) (view_body c.args.body.now) work is)) c.plan.ensures.work

pub returns-clause-light : goal.returns-clause-light
returns-clause-light c = on_ok_weaker c.plan.result (λ light. omega (arith, light)) c.plan.ensures.light
