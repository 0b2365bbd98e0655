use Rattle.std.proofs.Common.{Bool, ap, ◌∙◌, arith}
use Rattle.std.proofs.lemmas.Result.{on_ok_weaker}
use Rattle.luau_tree.specs.View.{view_item}
use Rattle.rule_work.specs.Moves.{kept_map, put_aside, restored, taken}
use Rattle.infer_plan.specs.Run.{run}
use Rattle.infer_plan.specs.Steps.{changed, with_entry}
use Rattle.infer_plan.proofs.items.item.Goals as goal

pub returns-clause-work : goal.returns-clause-work
returns-clause-work c =
    let item = view_item c.args.item.now in
    on_ok_weaker c.plan-2.result (λ made rules work has.
    made rules work
    ∙ c.in_ok-entry.ensures.work rules (put_aside (kept_map work))
    ∙ c.in_ok-plan.ensures.work rules (with_entry rules c.args.effects_later item (put_aside (kept_map work)))
    ∙ ap (λ (b : Bool). run rules c.args.tasks.now.items (changed b (restored (taken (with_entry rules c.args.effects_later item (put_aside (kept_map work))))))) has) c.plan-2.ensures.work

pub returns-clause-light : goal.returns-clause-light
returns-clause-light c = on_ok_weaker c.plan-2.result (λ light. omega (arith, light, c.in_ok-entry.ensures.light, c.in_ok-plan.ensures.light)) c.plan-2.ensures.light
