use Rattle.std.proofs.Common.{sym, ap, ◌∙◌}
use Rattle.luau_tree.specs.View.{view_choices}
use Rattle.luau_scope.specs.Steps.{after_choices, run}
use Rattle.luau_scope.proofs.AfterExprs.{no_choices}
use Rattle.luau_scope.proofs.Pushes.{before, pushed}
use Rattle.luau_scope.proofs.Splits.{none_of}
use Rattle.luau_scope.proofs.Visits.{choices_visit}
use Rattle.luau_scope.proofs.walker.Walker.choices.Goals as goal

pub returns-in_default : goal.returns-in_default
returns-in_default c =
    ap (run c.args.tasks.now) (sym (no_choices c.args.within c.args.self.now))
    ∙ ap (λ xs. run c.args.tasks.now (after_choices c.args.within (view_choices xs) c.args.self.now)) (sym (none_of c.args.choices.now c.in_default.len_below))

pub returns : goal.returns
returns c =
    pushed c.push-3.result _ _ _ _ _ _ c.push-3.ensures.ok (before _ _ _ _ c.in_ok-push-2.ensures.ok
    ∙ before _ _ _ _ c.in_ok-push.ensures.ok
    ∙ ap (run c.args.tasks.now) (sym (choices_visit c.args.within c.args.choices.now c.first-item.result c.args.self.now c.in-len1-up.len_at_least c.first-item.is)))
