use Rattle.std.proofs.Common.{List}
use Rattle.luau_tree.specs.declared.tree as code
use Rattle.luau_tree.specs.View.{view_stats}
use Rattle.luau_tree.specs.Tree.{no_exprs}
use Rattle.std.proofs.Common.{ap, ◌∙◌}
use Rattle.std.proofs.lemmas.Result.{on_ok_weaker}
use Rattle.luau_tree.specs.View.{view_binds, view_exprs}
use Rattle.luau_scope.specs.Steps.{after_close, after_locals, after_stats, run}
use Rattle.luau_scope.proofs.Pushes.{before}
use Rattle.luau_scope.proofs.VisitBlocks.{gen_for_visit}
use Rattle.luau_scope.proofs.walker.Walker.gen_for.Goals as goal

pub returns : goal.returns
returns c =
    on_ok_weaker c.push-3.result (λ e span. before _ _ _ _ e ∙ before _ _ _ _ c.in_ok-push-2.ensures.ok ∙ before _ _ _ _ c.in_ok-push.ensures.ok
    ∙ ap (λ (xs : List code.Stat.Stat). run c.args.tasks.now (after_close c.len.result (after_stats c.in_loop.result (view_stats xs) (after_locals c.args.within (view_binds c.args.binds.now) (view_binds c.args.binds.now) no_exprs (view_exprs c.args.values.now) c.new.result c.args.self.now)))) c.as_slice.ensures
    ∙ ap (run c.args.tasks.now) (gen_for_visit c.args.within c.in_loop.result span (view_binds c.args.binds.now) (view_exprs c.args.values.now) c.new.result c.args.body.now c.len.result c.args.self.now c.in_loop.ensures c.new.ensures c.len.ensures)) c.push-3.ensures.ok
