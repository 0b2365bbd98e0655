use Rattle.diag_text.proofs.Lines.{line_cmp_total}
use Rattle.diag_text.proofs.order.lines_are_ordered.Goals as goal

pub returns : goal.returns
returns c = line_cmp_total
