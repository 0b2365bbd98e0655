use Rattle.luau_tree.specs.declared.tree.ExprKind.TheViews as part
use Rattle.std.proofs.Common.{◌-◌, length, take, drop, sym, ap, ◌∙◌}
use Rattle.luau_tree.specs.View.{view_gens, view_maybe_type}
use Rattle.luau_scope.specs.Steps.{after_gens, after_maybe_type, run}
use Rattle.luau_scope.proofs.AfterTypes.{no_gens}
use Rattle.luau_scope.proofs.Pushes.{before, pushed}
use Rattle.luau_scope.proofs.Splits.{none_of}
use Rattle.luau_scope.proofs.Visits.{gens_visit}
use Rattle.luau_scope.specs.declared.walker.Walker.{Walker}
use Rattle.luau_scope.proofs.walker.Walker.gens.Goals as goal

pub returns-in_default : goal.returns-in_default
returns-in_default c =
    ap (run c.args.tasks.now) (sym (no_gens c.args.within c.args.self.now))
    ∙ ap (λ xs. run c.args.tasks.now (after_gens c.args.within (view_gens xs) c.args.self.now)) (sym (none_of c.args.gens.now c.in_default.len_below))

pub returns : goal.returns
returns c =
    let rest = take (length c.args.gens.now - 1) (drop 1 c.args.gens.now) in
    pushed c.push-2.result _ _ _ _ _ _ c.push-2.ensures.ok (before _ _ _ _ c.in_ok-push.ensures.ok
    ∙ ap (λ (u : Walker). run c.args.tasks.now (after_gens c.args.within (view_gens rest) (after_maybe_type c.args.within (view_maybe_type (part.out-Gen c.first-item.result).default) u))) c.refuse_if.ensures
    ∙ ap (run c.args.tasks.now) (sym (gens_visit c.args.within c.args.gens.now c.first-item.result c.args.self.now c.in-len1-up.len_at_least c.first-item.is)))
