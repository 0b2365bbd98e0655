use Rattle.std.proofs.Common.{arith}
use Rattle.diag_text.proofs.Printable.{one_line}
use Rattle.diag_text.proofs.text.a_text_line_is_one_line.Goals as goal

pub returns : goal.returns
returns c = one_line c.args.line.now (omega arith) (omega arith)
