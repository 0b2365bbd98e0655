use Rattle.std.proofs.Common.{◌≡◌, drop}
use Rattle.error_context.specs.Entries.{entry_at}
use Rattle.error_context.proofs.context.entry_of.Given as goal

abbrev pub invariant-loop-entry : goal.invariant-loop-entry
invariant-loop-entry l = entry_at (drop l.entry-index l.entries) l.local.0 ≡ entry_at l.entries l.local.0
