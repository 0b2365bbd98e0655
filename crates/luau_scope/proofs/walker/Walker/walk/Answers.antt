use Rattle.std.proofs.Common.{List, sym, ap, ◌∙◌}
use Rattle.luau_tree.specs.declared.tree as code
use Rattle.luau_tree.specs.Tree as plain
use Rattle.luau_tree.specs.View.{view_stats}
use Rattle.luau_scope.specs.declared.task.Task.{Task}
use Rattle.luau_scope.specs.Steps.{after_stats, run, within_module}
use Rattle.luau_scope.proofs.Layers.{block_layer}
use Rattle.luau_scope.proofs.Pushes.{before}
use Rattle.luau_scope.proofs.Walk.{run_none}
use Rattle.luau_scope.proofs.walker.Walker.walk.Goals as goal

pub returns-in_default : goal.returns-in_default
returns-in_default c =
    sym (run_none c.loop-turn.self)
    ∙ ap (λ (tasks : List Task). run tasks c.loop-turn.self) (sym c.in_default.ensures.0)
    ∙ c.loop-turn.invariant
    ∙ before _ _ _ _ c.in_ok-push.ensures.ok
    ∙ ap (λ (tasks : List Task). run tasks (after_stats within_module (view_stats c.as_slice.result.now) c.args.self.now)) c.new-tasks.ensures
    ∙ run_none (after_stats within_module (view_stats c.as_slice.result.now) c.args.self.now)
    ∙ ap (λ (stats : List code.Stat.Stat). after_stats within_module (view_stats stats) c.args.self.now) c.as_slice.ensures
    ∙ ap (λ (block : plain.Block). after_stats within_module block c.args.self.now) (sym (block_layer c.args.block.now))

pub loop-turn-preserved : goal.loop-turn-preserved
loop-turn-preserved c = c.in_ok-go.ensures ∙ sym (before _ _ _ _ c.in-Some.ensures) ∙ c.loop-turn.invariant
