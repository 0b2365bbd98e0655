use Rattle.std.proofs.Common.{ap, ◌∙◌, arith}
use Rattle.std.proofs.lemmas.Result.{on_ok_weaker}
use Rattle.luau_tree.specs.View.{view_choices, view_expr}
use Rattle.rule_work.specs.Moves.{kept_map, list_begun}
use Rattle.infer_plan.specs.Run.{run}
use Rattle.infer_plan.specs.Steps.{each_choice}
use Rattle.infer_plan.proofs.ChoiceForms.{if_else_form}
use Rattle.infer_plan.proofs.branches.if_else.Goals as goal

pub returns-clause-work : goal.returns-clause-work
returns-clause-work c =
    let arms = view_choices c.args.choices.now in
    let last = view_expr c.args.last.now in
    on_ok_weaker c.plan-2.result (λ made rules id work.
    made rules work
    ∙ c.in_ok-each_choice.ensures.work rules (kept_map (list_begun work))
    ∙ c.in_ok-plan.ensures.work rules (each_choice rules arms (kept_map (list_begun work)))
    ∙ ap (run rules c.args.tasks.now.items) (if_else_form rules id arms last work)) c.plan-2.ensures.work

pub returns-clause-light : goal.returns-clause-light
returns-clause-light c = on_ok_weaker c.plan-2.result (λ light. omega (arith, light, c.in_ok-each_choice.ensures.light, c.in_ok-plan.ensures.light)) c.plan-2.ensures.light
