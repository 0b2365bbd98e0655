use Rattle.std.proofs.Common.{Bool, ap, ◌∙◌, arith}
use Rattle.std.proofs.lemmas.Result.{on_ok_weaker}
use Rattle.luau_tree.specs.View.{view_exprs}
use Rattle.report_rules.specs.Effects.{targets_of}
use Rattle.rule_work.specs.Moves.{unlisted}
use Rattle.infer_plan.specs.Run.{run}
use Rattle.infer_plan.specs.Steps.{done, each_written, with_values, with_targets}
use Rattle.infer_plan.proofs.WriteForms.{assign_form}
use Rattle.infer_plan.proofs.writes.assign.Goals as goal

pub returns-clause-work : goal.returns-clause-work
returns-clause-work c =
    let targets = view_exprs c.args.targets.now in
    let values = view_exprs c.args.values.now in
    on_ok_weaker c.plan-2.result (λ made rules span work read.
    made rules work
    ∙ c.in_ok-each_written.ensures.work rules (with_values rules values (with_targets rules targets work)) read
    ∙ c.in_ok-plan.ensures.work rules (each_written rules c.last_expands-expanding.result (targets_of rules targets) (with_values rules values (with_targets rules targets work)))
    ∙ ap (λ (b : Bool). run rules c.args.tasks.now.items (done (unlisted (each_written rules b (targets_of rules targets) (with_values rules values (with_targets rules targets work)))))) c.last_expands-expanding.ensures
    ∙ ap (run rules c.args.tasks.now.items) (assign_form rules span targets values work)) c.plan-2.ensures.work

pub returns-clause-light : goal.returns-clause-light
returns-clause-light c = on_ok_weaker c.plan-2.result (λ light. omega (arith, light, c.in_ok-each_written.ensures.light, c.in_ok-plan.ensures.light)) c.plan-2.ensures.light
