use Rattle.std.proofs.Common.{◌≡◌, sym, ap, ◌∙◌, arith}
use Rattle.luau_tree.specs.Tree as plain
use Rattle.std.proofs.lemmas.Result.{on_ok_weaker}
use Rattle.luau_tree.specs.View.{view_block, view_stats}
use Rattle.luau_scope.proofs.Layers.{block_layer}
use Rattle.rule_work.specs.Moves.{list_begun}
use Rattle.rule_work.specs.Listed.{used}
use Rattle.type_fields.specs.Unions.{unions_with}
use Rattle.infer_plan.specs.Run.{run}
use Rattle.infer_plan.specs.Steps.{done, each_stat}
use Rattle.infer_plan.specs.Weights.{stats_weight}
use Rattle.infer_plan.proofs.StatForms.{block_form}
use Rattle.infer_plan.proofs.lists.block.Goals as goal

pub returns-clause-work : goal.returns-clause-work
returns-clause-work c =
    let stats = view_stats c.as_slice.result.now in
    let same : stats ≡ view_block c.args.block.now = ap view_stats c.as_slice.ensures ∙ sym (block_layer c.args.block.now) in
    on_ok_weaker c.plan-2.result (λ made rules work.
    made rules work
    ∙ c.in_ok-each_stat.ensures.work rules (list_begun work)
    ∙ c.in_ok-plan.ensures.work rules (each_stat rules stats (list_begun work))
    ∙ ap (λ (b : plain.Block). run rules c.args.tasks.now.items (used unions_with (done (each_stat rules b (list_begun work))))) same
    ∙ ap (run rules c.args.tasks.now.items) (block_form rules (view_block c.args.block.now) work)) c.plan-2.ensures.work

pub returns-clause-light : goal.returns-clause-light
returns-clause-light c =
    let same : view_stats c.as_slice.result.now ≡ view_block c.args.block.now = ap view_stats c.as_slice.ensures ∙ sym (block_layer c.args.block.now) in
    on_ok_weaker c.plan-2.result (λ light. omega (arith, light, c.in_ok-each_stat.ensures.light, c.in_ok-plan.ensures.light, ap stats_weight same)) c.plan-2.ensures.light
