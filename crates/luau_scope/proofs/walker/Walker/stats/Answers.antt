use Rattle.std.proofs.Common.{sym, ap, ◌∙◌}
use Rattle.luau_tree.specs.View.{view_stats}
use Rattle.luau_scope.specs.Steps.{after_stats, run}
use Rattle.luau_scope.proofs.AfterStats.{no_stats}
use Rattle.luau_scope.proofs.Pushes.{before}
use Rattle.luau_scope.proofs.Splits.{none_of}
use Rattle.luau_scope.proofs.Visits.{stats_visit}
use Rattle.std.proofs.lemmas.Result.{on_ok_weaker}
use Rattle.luau_scope.proofs.walker.Walker.stats.Goals as goal

pub returns-in_default : goal.returns-in_default
returns-in_default c =
    ap (run c.args.tasks.now) (sym (no_stats c.args.within c.args.self.now))
    ∙ ap (λ xs. run c.args.tasks.now (after_stats c.args.within (view_stats xs) c.args.self.now)) (sym (none_of c.args.stats.now c.in_default.len_below))

pub returns : goal.returns
returns c =
    on_ok_weaker c.stat.result (λ e. e ∙ before _ _ _ _ c.in_ok-push.ensures.ok ∙ ap (run c.args.tasks.now) (sym (stats_visit c.args.within c.args.stats.now c.first-item.result c.args.self.now c.in-len1-up.len_at_least c.first-item.is))) c.stat.ensures
