use Rattle.error_context.proofs.MadeFacts.{Made}
use Rattle.error_context.proofs.combining.combined.Given as goal

abbrev pub invariant-loop-pair : goal.invariant-loop-pair
invariant-loop-pair l = record {
  made : Made l.step l.initial.arena l.arena l.pairs l.made.items l.pair-index;
}
