use Rattle.diag_text.proofs.Printable.{printable_kept}
use Rattle.diag_text.proofs.text.printable_bytes_are_kept.Goals as goal

pub returns : goal.returns
returns c = printable_kept c.args.bytes.now c.requires
