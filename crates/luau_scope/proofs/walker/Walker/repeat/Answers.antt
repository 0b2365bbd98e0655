use Rattle.std.proofs.Common.{List}
use Rattle.luau_tree.specs.declared.tree as code
use Rattle.luau_tree.specs.View.{view_stats}
use Rattle.std.proofs.Common.{ap, ◌∙◌}
use Rattle.std.proofs.lemmas.Result.{on_ok_weaker}
use Rattle.luau_tree.specs.View.{view_expr}
use Rattle.luau_scope.specs.Steps.{after_stats, after_until, run}
use Rattle.luau_scope.proofs.Pushes.{before}
use Rattle.luau_scope.proofs.VisitBlocks.{repeat_visit}
use Rattle.luau_scope.proofs.walker.Walker.repeat.Goals as goal

pub returns : goal.returns
returns c =
    on_ok_weaker c.push-2.result (λ e span. before _ _ _ _ e ∙ before _ _ _ _ c.in_ok-push.ensures.ok
    ∙ ap (λ (xs : List code.Stat.Stat). run c.args.tasks.now (after_until c.args.within (view_expr c.args.cond.now) c.len-depth.result c.len-start.result (after_stats c.in_loop.result (view_stats xs) c.args.self.now))) c.as_slice.ensures
    ∙ ap (run c.args.tasks.now) (repeat_visit c.args.within c.in_loop.result span c.args.body.now (view_expr c.args.cond.now) c.len-depth.result c.len-start.result c.args.self.now c.in_loop.ensures c.len-depth.ensures c.len-start.ensures)) c.push-2.ensures.ok
