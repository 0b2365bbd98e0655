use Rattle.std.proofs.Common.{◌+◌, length}
use Rattle.error_context.proofs.PairFacts.{Running}
use Rattle.error_context.proofs.pairs.aligned.Given as goal

abbrev pub invariant-loop-pair : goal.invariant-loop-pair
invariant-loop-pair l = record {
  running : Running l.absent l.a l.b l.lefts l.rights l.pairs.items;
}

abbrev pub decreases-loop-pair : goal.decreases-loop-pair
decreases-loop-pair l = length l.lefts + length l.rights
