use Rattle.std.proofs.Common.{◌≡◌}
use Rattle.type_lower.specs.Log.{last_in}
use Rattle.type_lower.proofs.LogFacts.{sync_put}
use Rattle.type_lower.proofs.aliases.Aliases.put.Goals as goal

pub invariant_of-self-in_default : goal.invariant_of-self-in_default
invariant_of-self-in_default c =
    let h : c.copied-hides.result ≡ last_in c.self.inside.entries c.in_ok-name.name = cc (c.self.invariant.at_hand c.args.name.now, c.copied-hides.ensures, c.get.ensures.value, c.in_ok-name.ensures) in
    let k : c.in_ok-key.key ≡ c.in_ok-name.name = cc (c.in_ok-key.ensures, c.in_ok-name.ensures) in
    rw c.in_ok-push.ensures.ok (sync_put c.self.inside.entries (record { name = c.in_ok-name.name; at = c.args.at; hides = c.copied-hides.result }) c.self.inside.last c.insert.new.self c.self.invariant h
    (rw k at c.in_default.ensures.updates.0))
