use Rattle.std.proofs.Common.{sym}
use Rattle.type_lower.proofs.LogFacts.{sync_leave, sync_restored}
use Rattle.type_lower.proofs.aliases.Aliases.leave.Goals as goal

pub invariant_of-self-in-None-entry : goal.invariant_of-self-in-None-entry
invariant_of-self-in-None-entry c =
    sync_leave c.pop.new.self c.in-Some.entry c.self.inside.last c.remove.new.self (rw c.in-Some.ensures at c.self.invariant) (rw (sym c.in-None.is) at c.remove.ensures.updates.0)

pub invariant_of-self-in-Some-hides : goal.invariant_of-self-in-Some-hides
invariant_of-self-in-Some-hides c =
    sync_restored c.insert.result c.pop.new.self c.in-Some.entry c.in-Some-hides.outer c.self.inside.last c.insert.new.self (rw c.in-Some.ensures at c.self.invariant)
    c.in-Some-hides.is c.insert.ensures.updates c.insert.ensures.absent

pub invariant_of-self-in-Some-hides-2 : goal.invariant_of-self-in-Some-hides-2
invariant_of-self-in-Some-hides-2 c =
    sync_restored c.insert.result c.pop.new.self c.in-Some.entry c.in-Some-hides.outer c.self.inside.last c.insert.new.self (rw c.in-Some.ensures at c.self.invariant)
    c.in-Some-hides.is c.insert.ensures.updates c.insert.ensures.absent
