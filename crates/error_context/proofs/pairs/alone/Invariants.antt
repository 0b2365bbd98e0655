use Rattle.std.proofs.Common.{◌≡◌, take}
use Rattle.error_context.specs.Pairs.{alone}
use Rattle.error_context.proofs.pairs.alone.Given as goal

abbrev pub invariant-loop-entry : goal.invariant-loop-entry
invariant-loop-entry l = record {
  made : l.pairs.items ≡ alone (take l.entry-index l.entries);
}
