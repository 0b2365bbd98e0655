use Rattle.std.proofs.Common.{ap, ◌∙◌, arith}
use Rattle.std.proofs.lemmas.Result.{on_ok_weaker}
use Rattle.luau_tree.specs.View.{view_bind, view_block, view_expr, view_stat}
use Rattle.infer_plan.specs.Run.{run}
use Rattle.infer_plan.proofs.StatForms.{number_at}
use Rattle.infer_plan.proofs.stats.number_loop.Goals as goal

pub returns-clause-work : goal.returns-clause-work
returns-clause-work c = on_ok_weaker c.plan.result (λ made rules span work is. made rules work ∙ ap (run rules c.args.tasks.now.items) (number_at rules (view_stat c.args.s.now) span (view_bind c.args.bind.now) (view_expr c.args.from.now) (view_expr c.args.to.now) (view_block c.args.body.now) work is)) c.plan.ensures.work

pub returns-clause-light : goal.returns-clause-light
returns-clause-light c = on_ok_weaker c.plan.result (λ light. omega (arith, light)) c.plan.ensures.light
