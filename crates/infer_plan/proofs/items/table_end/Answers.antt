use Rattle.std.proofs.Common.{Bool, sym, ap, ◌∙◌, arith}
use Rattle.std.proofs.lemmas.Result.{on_ok_weaker}
use Rattle.luau_tree.specs.View.{view_items}
use Rattle.infer_plan.specs.Run.{run}
use Rattle.infer_plan.specs.Steps.{item_names, made_table}
use Rattle.infer_plan.proofs.items.table_end.Goals as goal

pub returns-then-has_other_key-clause-work : goal.returns-then-has_other_key-clause-work
returns-then-has_other_key-clause-work c = on_ok_weaker c.plan.result (λ made rules work. made rules work ∙ ap (λ (b : Bool). run rules c.args.tasks.now.items (made_table b (item_names (view_items c.args.items.now)) work)) (sym c.if-has_other_key.true ∙ c.has_other_key.ensures)) c.plan.ensures.work

pub returns-then-has_other_key-clause-light : goal.returns-then-has_other_key-clause-light
returns-then-has_other_key-clause-light c = on_ok_weaker c.plan.result (λ light. omega (arith, light)) c.plan.ensures.light

pub returns-else-has_other_key-clause-work : goal.returns-else-has_other_key-clause-work
returns-else-has_other_key-clause-work c = on_ok_weaker c.plan-else-has_other_key.result (λ made rules work. made rules work ∙ ap (λ (b : Bool). run rules c.args.tasks.now.items (made_table b (item_names (view_items c.args.items.now)) work)) (sym c.if-has_other_key.false ∙ c.has_other_key.ensures)) c.plan-else-has_other_key.ensures.work

pub returns-else-has_other_key-clause-light : goal.returns-else-has_other_key-clause-light
returns-else-has_other_key-clause-light c = on_ok_weaker c.plan-else-has_other_key.result (λ light. omega (arith, light)) c.plan-else-has_other_key.ensures.light
