use Rattle.diag_text.specs.Line.{line_cmp}
use Rattle.diag_text.proofs.Lines.{same_line}
use Rattle.folder_lines.proofs.Told.{made_lines_tell}
use Rattle.folder_lines.proofs.laws.lines_tell_reports.Goals as goal

pub returns : goal.returns
returns c =
    let total = c.lines_are_ordered.ensures in
    made_lines_tell c.reports_are_given_in_order.ensures.same (c.sorted_values_are_in_order.ensures line_cmp total) (c.sorted_values_are_the_values.ensures line_cmp total same_line)
