use Rattle.std.proofs.Common.{◌≡◌, length, take}
use Rattle.luau_scope.proofs.findings.Findings.take_own.Given as goal

-- only later `continue`s are taken out
abbrev pub invariant-loop-self : goal.invariant-loop-self
invariant-loop-self l = record {
  front : take l.start l.self.pending ≡ take l.start l.initial.self.pending;
  others : l.self ≡ record l.initial.self { pending = l.self.pending };
}

abbrev pub decreases-loop-self : goal.decreases-loop-self
decreases-loop-self l = length l.self.pending
