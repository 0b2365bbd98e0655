use Rattle.std.proofs.Common.{ℕ, List, ◌++◌, ap, ◌∙◌}
use Rattle.luau_tree.specs.View.{view_expr, view_exprs}
use Rattle.luau_scope.specs.declared.walker.Walker.{Walker}
use Rattle.luau_scope.specs.Finds.{target_local}
use Rattle.luau_scope.specs.Steps.{after_aim, after_aims, after_targets, around_in, run}
use Rattle.luau_scope.proofs.Pushes.{pushed}
use Rattle.luau_scope.proofs.walker.Walker.aims.Goals as goal

pub returns : goal.returns
unfolding after_aims after_aim
returns c =
    let target = view_expr c.args.target.now in
    let others = view_exprs c.args.others.now in
    pushed c.push.result _ _ _ _ _ _ c.push.ensures.ok (
    ap (λ (ns : List ℕ). run c.args.tasks.now (after_targets c.args.within ns others c.aim.new.self)) c.in_ok-earlier.ensures
    ∙ ap (λ (ns : List ℕ). run c.args.tasks.now (after_targets c.args.within (c.args.earlier ++ ns) others c.aim.new.self)) c.target_local-local.ensures
    ∙ ap (λ (u : Walker). run c.args.tasks.now (after_targets c.args.within (c.args.earlier ++ target_local (around_in u c.args.within) target) others u)) c.in_ok-aim.ensures)
