use Rattle.std.proofs.Common.{◌≡◌}
use Rattle.luau_scope.specs.InScope.{innermost_of}
use Rattle.luau_scope.proofs.ScopeLemmas.{sync_enter}
use Rattle.luau_scope.proofs.scope.Scope.enter.Goals as goal

pub invariant_of-self-in_default : goal.invariant_of-self-in_default
invariant_of-self-in_default c =
    let h : c.copied-hides.result ≡ innermost_of c.self.inside.entries c.in_ok-name.name = cc (c.self.invariant.at_hand c.args.name.now, c.copied-hides.ensures, c.get.ensures.value, c.in_ok-name.ensures) in
    let k : c.in_ok-key.key ≡ c.in_ok-name.name = cc (c.in_ok-key.ensures, c.in_ok-name.ensures) in
    rw c.in_ok-push.ensures.ok (sync_enter c.self.inside.entries (record { name = c.in_ok-name.name; held = c.args.held; hides = c.copied-hides.result }) c.self.inside.innermost c.insert.new.self c.self.invariant h
    (rw k at c.in_default.ensures.updates.0))
