use Rattle.luau_tree.specs.declared.tree.ExprKind.TheViews as part
use Rattle.std.proofs.Common.{◌-◌, length, take, drop, sym, ap, ◌∙◌}
use Rattle.luau_tree.specs.View.{view_binds, view_maybe_type}
use Rattle.luau_scope.specs.Steps.{after_maybe_type, after_params, run}
use Rattle.luau_scope.proofs.AfterLocals.{no_params}
use Rattle.luau_scope.proofs.Pushes.{before, pushed}
use Rattle.luau_scope.proofs.Splits.{none_of}
use Rattle.luau_scope.proofs.Visits.{params_visit}
use Rattle.luau_scope.specs.declared.walker.Walker.{Walker}
use Rattle.luau_scope.proofs.walker.Walker.params.Goals as goal

pub returns-in_default : goal.returns-in_default
returns-in_default c =
    ap (run c.args.tasks.now) (sym (no_params c.args.within c.args.self.now))
    ∙ ap (λ xs. run c.args.tasks.now (after_params c.args.within (view_binds xs) c.args.self.now)) (sym (none_of c.args.params.now c.in_default.len_below))

pub returns : goal.returns
returns c =
    let rest = take (length c.args.params.now - 1) (drop 1 c.args.params.now) in
    pushed c.push-2.result _ _ _ _ _ _ c.push-2.ensures.ok (before _ _ _ _ c.in_ok-push.ensures.ok
    ∙ ap (λ (u : Walker). run c.args.tasks.now (after_params c.args.within (view_binds rest) (after_maybe_type c.args.within (view_maybe_type (part.out-Bind c.first-item.result).typ) u))) c.in_ok-own_bind.ensures
    ∙ ap (run c.args.tasks.now) (sym (params_visit c.args.within c.args.params.now c.first-item.result c.args.self.now c.in-len1-up.len_at_least c.first-item.is)))
