use Rattle.std.proofs.Common.{sym}
use Rattle.luau_scope.proofs.ScopeLemmas.{sync_leave, sync_restored}
use Rattle.luau_scope.proofs.scope.Scope.leave.Goals as goal

pub invariant_of-self-in-None-entry : goal.invariant_of-self-in-None-entry
invariant_of-self-in-None-entry c =
    sync_leave c.pop.new.self c.in-Some.entry c.self.inside.innermost c.remove.new.self (rw c.in-Some.ensures at c.self.invariant) (rw (sym c.in-None.is) at c.remove.ensures.updates.0)

pub invariant_of-self-in-Some-hides : goal.invariant_of-self-in-Some-hides
invariant_of-self-in-Some-hides c =
    sync_restored c.insert.result c.pop.new.self c.in-Some.entry c.in-Some-hides.outer c.self.inside.innermost c.insert.new.self (rw c.in-Some.ensures at c.self.invariant)
    c.in-Some-hides.is c.insert.ensures.updates c.insert.ensures.absent

pub invariant_of-self-in-Some-hides-2 : goal.invariant_of-self-in-Some-hides-2
invariant_of-self-in-Some-hides-2 c =
    sync_restored c.insert.result c.pop.new.self c.in-Some.entry c.in-Some-hides.outer c.self.inside.innermost c.insert.new.self (rw c.in-Some.ensures at c.self.invariant)
    c.in-Some-hides.is c.insert.ensures.updates c.insert.ensures.absent
