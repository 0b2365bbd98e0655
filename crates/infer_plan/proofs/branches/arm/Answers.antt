use Rattle.std.proofs.Common.{sym, ap, ◌∙◌, arith}
use Rattle.luau_tree.specs.Tree as plain
use Rattle.std.proofs.lemmas.Result.{on_ok_weaker}
use Rattle.luau_scope.proofs.Layers.{arm_layer}
use Rattle.infer_plan.specs.Run.{run}
use Rattle.infer_plan.specs.Steps.{with_arm}
use Rattle.infer_plan.specs.Weights.{block_weight, expr_weight}
use Rattle.infer_plan.proofs.branches.arm.Goals as goal

pub returns-clause-work : goal.returns-clause-work
returns-clause-work c =
    let layer = arm_layer c.args.arm.now in
    on_ok_weaker c.plan.result (λ made rules work. made rules work ∙ ap (λ (p : plain.Expr × plain.Block). run rules c.args.tasks.now.items (with_arm rules p.0 p.1 work)) (sym layer)) c.plan.ensures.work

pub returns-clause-light : goal.returns-clause-light
returns-clause-light c =
    let layer = arm_layer c.args.arm.now in
    on_ok_weaker c.plan.result (λ light. omega (arith, light, ap (λ (p : plain.Expr × plain.Block). expr_weight p.0) layer, ap (λ (p : plain.Expr × plain.Block). block_weight p.1) layer)) c.plan.ensures.light
