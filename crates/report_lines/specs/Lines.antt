-- The lines of a module's reports.
use Rattle.std.specs.Prelude.{ℕ, List}
use Rattle.luau_tree.specs.Position.{pos_at}
use Rattle.diag_text.specs.declared.line.Line.{Line}
use Rattle.diag_text.specs.declared.line.LineKind.{LineKind}
use Rattle.diag_text.specs.declared.line.LineKind.TheVariants as kinds
use Rattle.report_rules.specs.Checks.{ReportKind, Argument, Missing, Operand, ValueOf, ParameterOf}
use Rattle.report_rules.specs.Messages.{message}
use Rattle.report_rules.specs.Reports.{Report}

-- the kind of line that tells a report
abbrev pub line_kind : ReportKind → LineKind
line_kind (Argument index path) = kinds.Argument
line_kind (Missing index path) = kinds.Missing
line_kind (Operand op) = kinds.Operand
line_kind (ValueOf name) = kinds.Value
line_kind (ParameterOf name) = kinds.Parameter

-- the line of a report of the module at a path: it stands where the reported syntax begins in the module's text
abbrev pub report_line : (path text : List ℕ) → Report → Line
report_line path text report = record {
  path = path;
  at = pos_at text report.at.start;
  kind = line_kind report.kind;
  message = message report.kind;
}
