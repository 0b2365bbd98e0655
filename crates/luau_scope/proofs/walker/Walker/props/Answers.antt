use Rattle.std.proofs.Common.{sym, ap, ◌∙◌}
use Rattle.luau_tree.specs.View.{view_props}
use Rattle.luau_scope.specs.Steps.{after_props, run}
use Rattle.luau_scope.proofs.AfterTypes.{no_props}
use Rattle.luau_scope.proofs.Pushes.{before, pushed}
use Rattle.luau_scope.proofs.Splits.{none_of}
use Rattle.luau_scope.proofs.Visits.{indexer_visit, named_visit}
use Rattle.luau_scope.proofs.walker.Walker.props.Goals as goal

pub returns-in_default : goal.returns-in_default
returns-in_default c =
    ap (run c.args.tasks.now) (sym (no_props c.args.within c.args.self.now))
    ∙ ap (λ xs. run c.args.tasks.now (after_props c.args.within (view_props xs) c.args.self.now)) (sym (none_of c.args.props.now c.in_default.len_below))

pub returns-in-Name : goal.returns-in-Name
returns-in-Name c = before _ _ _ _ c.in_ok-push-2.ensures.ok ∙ before _ _ _ _ c.in_ok-push.ensures.ok ∙ ap (run c.args.tasks.now) (sym (named_visit c.args.within c.args.props.now c.first-item.result c.in-Name.field-0 c.args.self.now c.in-len1-up.len_at_least c.first-item.is c.in-Name.is))

pub returns-in-Indexer : goal.returns-in-Indexer
returns-in-Indexer c =
    pushed c.push-in-Indexer.result _ _ _ _ _ _ c.push-in-Indexer.ensures.ok (before _ _ _ _ c.in_ok-push-2.ensures.ok ∙ before _ _ _ _ c.in_ok-push.ensures.ok
    ∙ ap (run c.args.tasks.now) (sym (indexer_visit c.args.within c.args.props.now c.first-item.result c.in-Indexer.key c.args.self.now c.in-len1-up.len_at_least c.first-item.is c.in-Indexer.is)))
