use Rattle.std.proofs.Common.{◌≡◌, take}
use Rattle.module_graph.specs.Standing.{IsLeastOf, group_of}
use Rattle.module_graph.proofs.fates.least_at.Given as goal

abbrev pub invariant-loop-call : goal.invariant-loop-call
invariant-loop-call l = IsLeastOf (λ to. group_of l.numbers to ≡ l.group) (take l.call-index l.calls) l.least
