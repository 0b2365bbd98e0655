use Rattle.std.proofs.Common.{ℕ, List, sym, ap, ◌∙◌}
use Rattle.std.proofs.lemmas.Result.{on_ok_weaker}
use Rattle.luau_tree.specs.View.{view_binds, view_exprs}
use Rattle.luau_scope.specs.Steps.{after_locals, run}
use Rattle.luau_scope.proofs.Pushes.{before}
use Rattle.luau_scope.proofs.AfterStats.{local_stat}
use Rattle.luau_scope.proofs.walker.Walker.local_stat.Goals as goal

pub returns : goal.returns
returns c =
    let binds = view_binds c.args.binds.now in
    let values = view_exprs c.args.values.now in
    on_ok_weaker c.push.result (λ e span. before _ _ _ _ e ∙ ap (λ (ns : List ℕ). run c.args.tasks.now (after_locals c.args.within binds binds values values ns c.args.self.now)) c.new.ensures
    ∙ ap (run c.args.tasks.now) (sym (local_stat c.args.within span binds values c.args.self.now))) c.push.ensures.ok
