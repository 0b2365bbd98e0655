use Rattle.std.proofs.Common.{◌≡◌, sym, ap, ◌∙◌, arith}
use Rattle.std.proofs.lemmas.Result.{on_ok_weaker}
use Rattle.luau_tree.specs.Tree as plain
use Rattle.luau_tree.specs.View.{view_block, view_stats}
use Rattle.luau_scope.proofs.Layers.{block_layer}
use Rattle.report_work.specs.Statements.{each_stat, with_stat}
use Rattle.report_plan.specs.Run.{run}
use Rattle.report_plan.specs.Weights.{stats_weight}
use Rattle.report_plan.proofs.Loads.{block_load}
use Rattle.report_plan.proofs.StatForms.{block_form}
use Rattle.report_plan.proofs.kinds.block.Goals as goal

pub returns-clause-work : goal.returns-clause-work
returns-clause-work c =
    let same : view_stats c.as_slice.result.now ≡ view_block c.args.block.now = ap view_stats c.as_slice.ensures ∙ sym (block_layer c.args.block.now) in
    on_ok_weaker c.each_stat.result (λ p rules seen work.
    p.work rules seen work
    ∙ ap (λ (b : plain.Block). run rules seen c.args.tasks.now.items (each_stat (with_stat rules seen) b work)) same
    ∙ ap (run rules seen c.args.tasks.now.items) (block_form rules seen (view_block c.args.block.now) work)) c.each_stat.ensures

pub returns-clause-light : goal.returns-clause-light
returns-clause-light c =
    let same : view_stats c.as_slice.result.now ≡ view_block c.args.block.now = ap view_stats c.as_slice.ensures ∙ sym (block_layer c.args.block.now) in
    on_ok_weaker c.each_stat.result (λ p. omega (arith, p.light, ap stats_weight same, block_load (view_block c.args.block.now))) c.each_stat.ensures
