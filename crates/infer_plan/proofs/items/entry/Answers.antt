use Rattle.std.proofs.Common.{sym, ap, ◌∙◌, arith}
use Rattle.luau_tree.specs.Tree as plain
use Rattle.std.proofs.lemmas.Result.{on_ok_weaker}
use Rattle.luau_tree.specs.View.{view_item}
use Rattle.luau_tree.proofs.Views.{field_item_seen, keyed_item_seen, plain_item_seen}
use Rattle.infer_plan.specs.Run.{run}
use Rattle.infer_plan.specs.Steps.{with_entry}
use Rattle.infer_plan.specs.Weights.{entry_weight}
use Rattle.infer_plan.proofs.items.entry.Goals as goal

pub returns-in-Field-clause-work : goal.returns-in-Field-clause-work
returns-in-Field-clause-work c =
    let is = ap view_item c.in-Field.is ∙ field_item_seen c.in-Field.name c.in-Field.value in
    on_ok_weaker c.plan.result (λ made rules work. made rules work ∙ ap (λ (i : plain.Item). run rules c.args.tasks.now.items (with_entry rules c.args.effects_later i work)) (sym is)) c.plan.ensures.work

pub returns-in-Field-clause-light : goal.returns-in-Field-clause-light
returns-in-Field-clause-light c =
    let is = ap view_item c.in-Field.is ∙ field_item_seen c.in-Field.name c.in-Field.value in
    on_ok_weaker c.plan.result (λ light. omega (arith, light, ap entry_weight is)) c.plan.ensures.light

pub returns-in-Keyed-clause-work : goal.returns-in-Keyed-clause-work
returns-in-Keyed-clause-work c =
    let is = ap view_item c.in-Keyed.is ∙ keyed_item_seen c.in-Keyed.key c.in-Keyed.value in
    on_ok_weaker c.keyed.result (λ made rules work. made rules work ∙ ap (λ (i : plain.Item). run rules c.args.tasks.now.items (with_entry rules c.args.effects_later i work)) (sym is)) c.keyed.ensures.work

pub returns-in-Keyed-clause-light : goal.returns-in-Keyed-clause-light
returns-in-Keyed-clause-light c =
    let is = ap view_item c.in-Keyed.is ∙ keyed_item_seen c.in-Keyed.key c.in-Keyed.value in
    on_ok_weaker c.keyed.result (λ light. omega (arith, light, ap entry_weight is)) c.keyed.ensures.light

pub returns-in-Plain-clause-work : goal.returns-in-Plain-clause-work
returns-in-Plain-clause-work c =
    let is = ap view_item c.in-Plain.is ∙ plain_item_seen c.in-Plain.value in
    on_ok_weaker c.plan-in-Plain.result (λ made rules work. made rules work ∙ ap (λ (i : plain.Item). run rules c.args.tasks.now.items (with_entry rules c.args.effects_later i work)) (sym is)) c.plan-in-Plain.ensures.work

pub returns-in-Plain-clause-light : goal.returns-in-Plain-clause-light
returns-in-Plain-clause-light c =
    let is = ap view_item c.in-Plain.is ∙ plain_item_seen c.in-Plain.value in
    on_ok_weaker c.plan-in-Plain.result (λ light. omega (arith, light, ap entry_weight is)) c.plan-in-Plain.ensures.light
