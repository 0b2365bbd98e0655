use Rattle.std.proofs.Common.{List, ap, ◌∙◌}
use Rattle.std.proofs.lemmas.Result.{on_ok_weaker}
use Rattle.luau_tree.specs.declared.tree as code
use Rattle.luau_tree.specs.declared.tree.ExprKind.TheViews as part
use Rattle.luau_tree.specs.View.{view_bind, view_expr, view_maybe_expr, view_maybe_type, view_stats}
use Rattle.luau_scope.specs.declared.walker.Walker.{Walker}
use Rattle.luau_scope.specs.Finds.{own_locals}
use Rattle.luau_scope.specs.Steps.{after_close, after_entry, after_expr, after_maybe_expr, after_maybe_type, after_stats, around_in, run}
use Rattle.luau_scope.proofs.Pushes.{before}
use Rattle.luau_scope.proofs.VisitBlocks.{num_for_visit}
use Rattle.luau_scope.proofs.walker.Walker.num_for.Goals as goal

pub returns : goal.returns
returns c =
    let bind = c.args.bind.now in
    let t : Walker = after_maybe_expr c.args.within (view_maybe_expr c.args.step.now) (after_expr c.args.within (view_expr c.args.to.now) (after_expr c.args.within (view_expr c.args.from.now) (after_maybe_type c.args.within (view_maybe_type (part.out-Bind bind).typ) c.declare.new.self))) in
    on_ok_weaker c.declare.result (λ e span. before _ _ _ _ c.in_ok-push-7.ensures.ok
    ∙ before _ _ _ _ c.in_ok-push-6.ensures.ok
    ∙ before _ _ _ _ c.in_ok-push-5.ensures.ok
    ∙ before _ _ _ _ c.in_ok-push-4.ensures.ok
    ∙ before _ _ _ _ c.in_ok-push-3.ensures.ok
    ∙ before _ _ _ _ c.in_ok-push-2.ensures.ok
    ∙ before _ _ _ _ c.in_ok-push.ensures.ok
    ∙ ap (λ (xs : List code.Stat.Stat). run c.args.tasks.now (after_close c.len.result (after_stats c.in_loop.result (view_stats xs) (after_entry c.args.within (own_locals (around_in t c.args.within)) (view_bind bind) c.in_ok-number.number t)))) c.as_slice.ensures
    ∙ ap (run c.args.tasks.now) (num_for_visit c.args.within c.in_loop.result span bind (view_expr c.args.from.now) (view_expr c.args.to.now) (view_maybe_expr c.args.step.now) c.args.body.now c.len.result c.in_ok-number.number c.args.self.now c.declare.new.self c.in_loop.ensures e c.len.ensures c.in_ok-number.ensures)) c.declare.ensures
