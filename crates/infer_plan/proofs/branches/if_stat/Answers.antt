use Rattle.std.proofs.Common.{ap, ◌∙◌, arith}
use Rattle.std.proofs.lemmas.Result.{on_ok_weaker}
use Rattle.luau_tree.specs.View.{view_arms, view_maybe_block}
use Rattle.rule_work.specs.Moves.{ends_begun, list_begun}
use Rattle.infer_plan.specs.Run.{run}
use Rattle.infer_plan.specs.Steps.{at_last, each_arm}
use Rattle.infer_plan.proofs.ChoiceForms.{if_form}
use Rattle.infer_plan.proofs.branches.if_stat.Goals as goal

pub returns-clause-work : goal.returns-clause-work
returns-clause-work c =
    let arms = view_arms c.args.arms.now in
    let last = view_maybe_block c.args.last.now in
    on_ok_weaker c.plan-2.result (λ made rules span work.
    made rules work
    ∙ c.in_ok-each_arm.ensures.work rules (list_begun (ends_begun work))
    ∙ c.in_ok-last_block.ensures.work rules (each_arm rules arms (list_begun (ends_begun work)))
    ∙ c.in_ok-plan.ensures.work rules (at_last rules last (each_arm rules arms (list_begun (ends_begun work))))
    ∙ ap (run rules c.args.tasks.now.items) (if_form rules span arms last work)) c.plan-2.ensures.work

pub returns-clause-light : goal.returns-clause-light
returns-clause-light c = on_ok_weaker c.plan-2.result (λ light. omega (arith, light, c.in_ok-each_arm.ensures.light, c.in_ok-last_block.ensures.light, c.in_ok-plan.ensures.light)) c.plan-2.ensures.light
