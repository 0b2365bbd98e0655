use Rattle.std.proofs.Common.{sym, ap, ◌∙◌}
use Rattle.luau_tree.specs.View.{view_expr, view_exprs}
use Rattle.luau_scope.specs.declared.walker.Walker.{Walker}
use Rattle.luau_scope.specs.Finds.{id_of, span_of}
use Rattle.luau_scope.specs.Steps.{after_expr, after_exprs, run}
use Rattle.luau_scope.proofs.AfterLocals.{other_call, static_require}
use Rattle.luau_scope.proofs.Pushes.{before, pushed}
use Rattle.luau_scope.proofs.walker.Walker.call.Goals as goal

pub returns-then-is_static : goal.returns-then-is_static
returns-then-is_static c =
    before _ _ _ _ c.in_ok-push.ensures.ok
    ∙ ap (λ (u : Walker). run c.args.tasks.now (after_exprs c.args.within (view_exprs c.args.args.now) u)) c.in_ok-is_static.ensures.found
    ∙ ap (run c.args.tasks.now) (sym (static_require c.args.within (id_of (view_expr c.args.call.now)) (span_of (view_expr c.args.call.now)) (view_expr c.args.callee.now) (view_exprs c.args.args.now) c.args.self.now (sym c.in_ok-is_static.ensures.done ∙ c.if-is_static.true)))

pub returns-else-is_static : goal.returns-else-is_static
returns-else-is_static c =
    pushed c.push-else-is_static.result _ _ _ _ _ _ c.push-else-is_static.ensures.ok (before _ _ _ _ c.in_ok-push.ensures.ok
    ∙ ap (λ (u : Walker). run c.args.tasks.now (after_exprs c.args.within (view_exprs c.args.args.now) (after_expr c.args.within (view_expr c.args.callee.now) u))) c.in_ok-is_static.ensures.found
    ∙ ap (run c.args.tasks.now) (sym (other_call c.args.within (id_of (view_expr c.args.call.now)) (span_of (view_expr c.args.call.now)) (view_expr c.args.callee.now) (view_exprs c.args.args.now) c.args.self.now (sym c.in_ok-is_static.ensures.done ∙ c.if-is_static.false))))
