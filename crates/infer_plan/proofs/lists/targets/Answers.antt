use Rattle.std.proofs.Common.{Bool, ap, ◌∙◌, arith}
use Rattle.std.proofs.lemmas.Result.{on_ok_weaker}
use Rattle.luau_tree.specs.View.{view_exprs}
use Rattle.rule_work.specs.Moves.{kept_map, restored}
use Rattle.infer_plan.specs.Run.{run}
use Rattle.infer_plan.specs.Steps.{changed, each_target}
use Rattle.infer_plan.proofs.ListForms.{targets_form}
use Rattle.infer_plan.proofs.SameRules.{any_effects_by}
use Rattle.infer_plan.proofs.lists.targets.Goals as goal

pub returns-clause-work : goal.returns-clause-work
returns-clause-work c =
    let es = view_exprs c.args.es.now in
    on_ok_weaker c.plan-2.result (λ made rules work read.
    made rules work
    ∙ c.in_ok-each_target.ensures.work rules (kept_map work)
    ∙ c.in_ok-plan.ensures.work rules (each_target rules es (kept_map work))
    ∙ ap (λ (b : Bool). run rules c.args.tasks.now.items (changed b (restored (each_target rules es (kept_map work))))) (c.any_effects-has_effects.ensures ∙ any_effects_by c.args.facts.now rules read es)
    ∙ ap (run rules c.args.tasks.now.items) (targets_form rules es work)) c.plan-2.ensures.work

pub returns-clause-light : goal.returns-clause-light
returns-clause-light c = on_ok_weaker c.plan-2.result (λ light. omega (arith, light, c.in_ok-each_target.ensures.light, c.in_ok-plan.ensures.light)) c.plan-2.ensures.light
