use Rattle.std.proofs.Common.{Bool, ap, ◌∙◌, arith}
use Rattle.std.proofs.lemmas.Result.{on_ok_weaker}
use Rattle.luau_tree.specs.View.{view_binds, view_exprs}
use Rattle.rule_work.specs.Moves.{unlisted}
use Rattle.infer_plan.specs.Run.{run}
use Rattle.infer_plan.specs.Steps.{done, each_declared, with_values}
use Rattle.infer_plan.proofs.WriteForms.{local_form}
use Rattle.infer_plan.proofs.writes.local_stat.Goals as goal

pub returns-clause-work : goal.returns-clause-work
returns-clause-work c =
    let binds = view_binds c.args.binds.now in
    let values = view_exprs c.args.values.now in
    on_ok_weaker c.plan-2.result (λ made rules span work.
    made rules work
    ∙ c.in_ok-each_declared.ensures.work rules (with_values rules values work)
    ∙ c.in_ok-plan.ensures.work rules (each_declared rules c.last_expands-expanding.result binds (with_values rules values work))
    ∙ ap (λ (b : Bool). run rules c.args.tasks.now.items (done (unlisted (each_declared rules b binds (with_values rules values work))))) c.last_expands-expanding.ensures
    ∙ ap (run rules c.args.tasks.now.items) (local_form rules span binds values work)) c.plan-2.ensures.work

pub returns-clause-light : goal.returns-clause-light
returns-clause-light c = on_ok_weaker c.plan-2.result (λ light. omega (arith, light, c.in_ok-each_declared.ensures.light, c.in_ok-plan.ensures.light)) c.plan-2.ensures.light
