use Rattle.std.proofs.Common.{ap, ◌∙◌, arith}
use Rattle.std.proofs.lemmas.Result.{on_ok_weaker}
use Rattle.luau_tree.specs.View.{view_body}
use Rattle.luau_scope.proofs.Layers.{body_layer}
use Rattle.infer_plan.specs.Run.{run}
use Rattle.infer_plan.specs.Weights.{body_weight}
use Rattle.infer_plan.proofs.StatForms.{body_at}
use Rattle.infer_plan.proofs.branches.body.Goals as goal

pub returns-clause-work : goal.returns-clause-work
returns-clause-work c =
    on_ok_weaker c.plan.result (λ made rules work. made rules work ∙ ap (run rules c.args.tasks.now.items) (body_at rules (view_body c.args.body.now) _ _ _ _ _ _ _ _ work (body_layer c.args.body.now))) c.plan.ensures.work

pub returns-clause-light : goal.returns-clause-light
returns-clause-light c =
    on_ok_weaker c.plan.result (λ light. omega (arith, light, ap body_weight (body_layer c.args.body.now))) c.plan.ensures.light
