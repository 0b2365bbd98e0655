use Rattle.report_spans.proofs.Entries.{one_each}
use Rattle.report_spans.proofs.laws.entries_stand_at_their_syntax.Goals as goal

pub returns : goal.returns
returns c = one_each
