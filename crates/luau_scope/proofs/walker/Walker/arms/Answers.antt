use Rattle.std.proofs.Common.{sym, ap, ◌∙◌}
use Rattle.luau_tree.specs.View.{view_arms}
use Rattle.luau_scope.specs.Steps.{after_arms, run}
use Rattle.luau_scope.proofs.AfterStats.{no_arms}
use Rattle.luau_scope.proofs.Pushes.{before, pushed}
use Rattle.luau_scope.proofs.Splits.{none_of}
use Rattle.luau_scope.proofs.Visits.{arms_visit}
use Rattle.luau_scope.proofs.walker.Walker.arms.Goals as goal

pub returns-in_default : goal.returns-in_default
returns-in_default c =
    ap (run c.args.tasks.now) (sym (no_arms c.args.within c.args.self.now))
    ∙ ap (λ xs. run c.args.tasks.now (after_arms c.args.within (view_arms xs) c.args.self.now)) (sym (none_of c.args.arms.now c.in_default.len_below))

pub returns : goal.returns
returns c =
    pushed c.push-3.result _ _ _ _ _ _ c.push-3.ensures.ok (before _ _ _ _ c.in_ok-push-2.ensures.ok
    ∙ before _ _ _ _ c.in_ok-push.ensures.ok
    ∙ ap (run c.args.tasks.now) (sym (arms_visit c.args.within c.args.arms.now c.first-item.result c.args.self.now c.in-len1-up.len_at_least c.first-item.is)))
