use Rattle.std.proofs.Common.{◌≡◌, ◌++◌, map, take}
use Rattle.module_reports.specs.Meant.{report_meant}
use Rattle.report_lines.specs.Lines.{report_line}
use Rattle.report_lines.proofs.lines.push_report_lines.Given as goal

-- the lines of the reports so far are added, and the cursor goes over the text
abbrev pub invariant-loop-report : goal.invariant-loop-report
invariant-loop-report l =
    (l.lines.items ≡ l.initial.lines.items ++ map (report_line l.path l.text) (map report_meant (take l.report-index l.reports)))
    × (l.cursor ≡ l.text)
