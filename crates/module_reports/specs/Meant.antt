-- What reports that code has stand for.
use Rattle.std.specs.Prelude.{}
use Rattle.report_rules.specs.Checks as rules
use Rattle.report_rules.specs.Reports as rules_reports
use Rattle.module_reports.specs.declared.kind.ReportKind.{ReportKind}
use Rattle.module_reports.specs.declared.kind.ReportKind.TheVariants.{Argument, Missing, Operand, Value, Parameter}
use Rattle.module_reports.specs.declared.report.Report.{Report}

-- what a report says
abbrev pub kind_meant : ReportKind → rules.ReportKind
kind_meant (Argument index builtin) = rules.Argument index builtin
kind_meant (Missing index builtin) = rules.Missing index builtin
kind_meant (Operand op) = rules.Operand op
kind_meant (Value name) = rules.ValueOf name
kind_meant (Parameter name) = rules.ParameterOf name

-- a report, with its place
abbrev pub report_meant : Report → rules_reports.Report
report_meant report = record { place = report.place; at = report.at; kind = kind_meant report.kind }
