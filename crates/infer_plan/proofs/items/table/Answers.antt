use Rattle.std.proofs.Common.{ap, ◌∙◌, arith}
use Rattle.std.proofs.lemmas.Result.{on_ok_weaker}
use Rattle.luau_tree.specs.View.{view_items}
use Rattle.rule_work.specs.Moves.{kept_map, list_begun}
use Rattle.infer_plan.specs.Run.{run}
use Rattle.infer_plan.specs.Steps.{each_item}
use Rattle.infer_plan.proofs.ItemForms.{table_form}
use Rattle.infer_plan.proofs.items.table.Goals as goal

pub returns-clause-work : goal.returns-clause-work
returns-clause-work c =
    let items = view_items c.args.items.now in
    on_ok_weaker c.plan.result (λ made rules id work read.
    made rules work
    ∙ c.in_ok-each_item.ensures.work rules (kept_map (list_begun work)) read
    ∙ c.in_ok-table_end.ensures.work rules (each_item rules items (kept_map (list_begun work)))
    ∙ ap (run rules c.args.tasks.now.items) (table_form rules id items work)) c.plan.ensures.work

pub returns-clause-light : goal.returns-clause-light
returns-clause-light c = on_ok_weaker c.plan.result (λ light. omega (arith, light, c.in_ok-each_item.ensures.light, c.in_ok-table_end.ensures.light)) c.plan.ensures.light
