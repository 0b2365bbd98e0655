use Rattle.std.proofs.Common.{◌≡◌, ℕ, ◌-◌, length, arith, ap, ◌∙◌}
use Rattle.std.proofs.lemmas.Result.{on_ok_weaker}
use Rattle.luau_tree.specs.View.{view_bind}
use Rattle.luau_scope.specs.declared.walker.Walker.{Walker}
use Rattle.luau_scope.specs.Steps.{after_entry, after_own}
use Rattle.luau_scope.proofs.walker.Walker.own_bind.Goals as goal

pub returns : goal.returns
unfolding after_own
returns c =
    let bind = view_bind c.args.bind.now in
    let own : c.saturating_sub-own.result ≡ length c.args.self.now.scope - c.args.within.outside = omega (arith, c.saturating_sub-own.ensures, c.len.ensures) in
    on_ok_weaker c.entry.result (λ e. e
    ∙ ap (λ (n : ℕ). after_entry c.args.within n bind c.in_ok-number.number c.declare.new.self) own
    ∙ ap (λ (n : ℕ). after_entry c.args.within (length c.args.self.now.scope - c.args.within.outside) bind n c.declare.new.self) c.in_ok-number.ensures
    ∙ ap (λ (u : Walker). after_entry c.args.within (length c.args.self.now.scope - c.args.within.outside) bind (length c.args.self.now.found.locals) u) c.in_ok-declare.ensures) c.entry.ensures
