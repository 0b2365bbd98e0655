use Rattle.std.proofs.Common.{sym, ap, ◌∙◌}
use Rattle.luau_tree.specs.View.{view_items}
use Rattle.luau_scope.specs.Steps.{after_items, run}
use Rattle.luau_scope.proofs.AfterExprs.{no_items}
use Rattle.luau_scope.proofs.Pushes.{before, pushed}
use Rattle.luau_scope.proofs.Splits.{none_of}
use Rattle.luau_scope.proofs.Visits.{field_visit, keyed_visit, plain_visit}
use Rattle.luau_scope.proofs.walker.Walker.items.Goals as goal

pub returns-in_default : goal.returns-in_default
returns-in_default c =
    ap (run c.args.tasks.now) (sym (no_items c.args.within c.args.self.now))
    ∙ ap (λ xs. run c.args.tasks.now (after_items c.args.within (view_items xs) c.args.self.now)) (sym (none_of c.args.items.now c.in_default.len_below))

pub returns-in-Field : goal.returns-in-Field
returns-in-Field c = pushed c.push-in-Field.result _ _ _ _ _ _ c.push-in-Field.ensures.ok (before _ _ _ _ c.in_ok-push.ensures.ok ∙ ap (run c.args.tasks.now) (sym (field_visit c.args.within c.args.items.now c.first-item.result _ c.in-Field.value c.args.self.now c.in-len1-up.len_at_least c.first-item.is c.in-Field.is)))

pub returns-in-Plain : goal.returns-in-Plain
returns-in-Plain c = pushed c.push-in-Plain.result _ _ _ _ _ _ c.push-in-Plain.ensures.ok (before _ _ _ _ c.in_ok-push.ensures.ok ∙ ap (run c.args.tasks.now) (sym (plain_visit c.args.within c.args.items.now c.first-item.result c.in-Plain.value c.args.self.now c.in-len1-up.len_at_least c.first-item.is c.in-Plain.is)))

pub returns-in_ok-push-in-Keyed : goal.returns-in_ok-push-in-Keyed
returns-in_ok-push-in-Keyed c =
    pushed c.push-in-Keyed-2.result _ _ _ _ _ _ c.push-in-Keyed-2.ensures.ok (before _ _ _ _ c.in_ok-push-in-Keyed.ensures.ok ∙ before _ _ _ _ c.in_ok-push.ensures.ok
    ∙ ap (run c.args.tasks.now) (sym (keyed_visit c.args.within c.args.items.now c.first-item.result c.in-Keyed.key c.in-Keyed.value c.args.self.now c.in-len1-up.len_at_least c.first-item.is c.in-Keyed.is)))
