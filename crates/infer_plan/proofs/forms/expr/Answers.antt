use Rattle.std.proofs.Common.{Bool, ap, ◌∙◌, arith}
use Rattle.std.proofs.lemmas.Result.{on_ok_weaker}
use Rattle.luau_tree.specs.View.{view_expr}
use Rattle.rule_work.specs.Moves.{closed}
use Rattle.infer_plan.specs.Run.{run}
use Rattle.infer_plan.specs.Steps.{changed, with_form, with_path, opened_at}
use Rattle.infer_plan.proofs.ExprForms.{expr_at}
use Rattle.infer_plan.proofs.SameRules.{effects_by}
use Rattle.infer_plan.proofs.forms.expr.Goals as goal

pub returns-clause-work : goal.returns-clause-work
returns-clause-work c =
    let e = view_expr c.args.e.now in
    on_ok_weaker c.plan.result (λ made rules work read.
    made rules work
    ∙ ap (λ (b : Bool). run rules c.args.tasks.now.items (changed b (closed (with_path rules e (with_form rules e (opened_at e work)))))) (c.effects-has_effects.ensures ∙ effects_by c.args.facts.now rules read e)
    ∙ ap (run rules c.args.tasks.now.items) (expr_at rules e work)) c.plan.ensures.work

pub returns-clause-light : goal.returns-clause-light
returns-clause-light c = on_ok_weaker c.plan.result (λ light. omega (arith, light)) c.plan.ensures.light
