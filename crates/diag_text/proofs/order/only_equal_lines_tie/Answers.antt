use Rattle.diag_text.proofs.Lines.{same_line, tie_itself}
use Rattle.diag_text.proofs.order.only_equal_lines_tie.Goals as goal

pub returns : goal.returns
returns c = (same_line c.args.a.now c.args.b.now, tie_itself c.args.a.now c.args.b.now)
