use Rattle.std.proofs.Common.{ap, ◌∙◌, arith}
use Rattle.std.proofs.lemmas.Result.{on_ok_weaker}
use Rattle.luau_tree.specs.View.{view_body}
use Rattle.luau_scope.proofs.Layers.{body_layer}
use Rattle.report_plan.specs.Run.{run}
use Rattle.report_plan.specs.Weights.{body_weight}
use Rattle.report_plan.proofs.FoundForms.{body_at}
use Rattle.report_plan.proofs.kinds.body.Goals as goal

pub returns-clause-work : goal.returns-clause-work
returns-clause-work c =
    on_ok_weaker c.plan.result (λ p rules seen work.
    p.work rules seen work ∙ ap (run rules seen c.args.tasks.now.items) (body_at rules seen (view_body c.args.body.now) _ _ _ _ _ _ _ _ work (body_layer c.args.body.now))) c.plan.ensures

pub returns-clause-light : goal.returns-clause-light
returns-clause-light c = on_ok_weaker c.plan.result (λ p. omega (arith, p.light, ap body_weight (body_layer c.args.body.now))) c.plan.ensures
