use Rattle.diag_text.specs.Line.{line_cmp}
use Rattle.diag_text.proofs.Lines.{same_line}
use Rattle.nonstrict_cli.proofs.Telling.{folder_is_told}
use Rattle.nonstrict_cli.proofs.laws.lines_tell_reports.Goals as goal

pub returns : goal.returns
returns c =
    let total = c.lines_are_ordered.ensures in
    folder_is_told total same_line (c.sorted_values_are_in_order.ensures line_cmp total) (c.sorted_values_are_the_values.ensures line_cmp total same_line)
