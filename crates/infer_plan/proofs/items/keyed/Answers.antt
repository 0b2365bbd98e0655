use Rattle.std.proofs.Common.{ℕ, List, ap, ◌∙◌, arith}
use Rattle.std.proofs.lemmas.Result.{on_ok_weaker}
use Rattle.std.specs.Prelude.{Option}
use Rattle.luau_tree.specs.View.{view_expr}
use Rattle.report_rules.specs.Forward.{held}
use Rattle.rule_work.specs.Moves.{valued}
use Rattle.infer_plan.specs.Run.{run}
use Rattle.infer_plan.specs.Steps.{added_by, with_expr}
use Rattle.infer_plan.proofs.items.keyed.Goals as goal

pub returns-in-Some-clause-work : goal.returns-in-Some-clause-work
returns-in-Some-clause-work c =
    let named = rw c.in-Some.is at c.name_of_key.ensures in
    on_ok_weaker c.plan.result (λ made rules work. made rules work ∙ ap (λ (name : Option (List ℕ)). run rules c.args.tasks.now.items (added_by name (valued (held c.args.effects_later (with_expr rules (view_expr c.args.value.now) (with_expr rules (view_expr c.args.key.now) work)).value) (with_expr rules (view_expr c.args.value.now) (with_expr rules (view_expr c.args.key.now) work))))) named) c.plan.ensures.work

pub returns-in-Some-clause-light : goal.returns-in-Some-clause-light
returns-in-Some-clause-light c = on_ok_weaker c.plan.result (λ light. omega (arith, light)) c.plan.ensures.light

pub returns-in-None-clause-work : goal.returns-in-None-clause-work
returns-in-None-clause-work c =
    let named = rw c.in-None.is at c.name_of_key.ensures in
    on_ok_weaker c.plan-in-None.result (λ made rules work. made rules work ∙ ap (λ (name : Option (List ℕ)). run rules c.args.tasks.now.items (added_by name (valued (held c.args.effects_later (with_expr rules (view_expr c.args.value.now) (with_expr rules (view_expr c.args.key.now) work)).value) (with_expr rules (view_expr c.args.value.now) (with_expr rules (view_expr c.args.key.now) work))))) named) c.plan-in-None.ensures.work

pub returns-in-None-clause-light : goal.returns-in-None-clause-light
returns-in-None-clause-light c = on_ok_weaker c.plan-in-None.result (λ light. omega (arith, light)) c.plan-in-None.ensures.light
