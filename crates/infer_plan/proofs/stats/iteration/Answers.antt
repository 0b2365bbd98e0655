use Rattle.std.proofs.Common.{ap, ◌∙◌, arith}
use Rattle.std.proofs.lemmas.Result.{on_ok_weaker}
use Rattle.luau_tree.specs.View.{view_block, view_exprs, view_stat}
use Rattle.infer_plan.specs.Run.{run}
use Rattle.infer_plan.proofs.StatForms.{iteration_at}
use Rattle.infer_plan.proofs.stats.iteration.Goals as goal

pub returns-clause-work : goal.returns-clause-work
returns-clause-work c = on_ok_weaker c.plan.result (λ made rules span binds work is. made rules work ∙ ap (run rules c.args.tasks.now.items) (iteration_at rules (view_stat c.args.s.now) span binds (view_exprs c.args.values.now) (view_block c.args.body.now) work is)) c.plan.ensures.work

pub returns-clause-light : goal.returns-clause-light
returns-clause-light c = on_ok_weaker c.plan.result (λ light. omega (arith, light)) c.plan.ensures.light
