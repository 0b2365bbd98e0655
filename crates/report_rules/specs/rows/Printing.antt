-- Worked rows on what reports say and how they are ordered. Here expressions have spans.
use Rattle.std.specs.Prelude.{ℕ, List, [], ◌∷◌, map, codes}
use Rattle.luau_tree.specs.declared.position.Span.{Span}
use Rattle.luau_tree.specs.declared.names.UnOp.TheVariants.{Minus}
use Rattle.luau_tree.specs.Tree.{the_expr, NilExpr, StrExpr, NameExpr, Call, Unary, CallStat}
use Rattle.luau_run.specs.ReadModule.{UseBuiltin}
use Rattle.luau_run.specs.runs.Builders.{e, exprs_of, returning}
use Rattle.report_rules.specs.Rules.{Rules}
use Rattle.report_rules.specs.Checks.{ReportKind}
use Rattle.report_rules.specs.Messages.{message}
use Rattle.report_rules.specs.Reports.{Report}
use Rattle.report_rules.specs.Printed.{printed_reports}
use Rattle.report_rules.specs.rows.Builders.{rules_of, at}

-- what a module's reports say, in order, and with their offsets
abbrev pub said : Rules → List (List ℕ)
said rules = map (λ report. message report.kind) (printed_reports rules)

abbrev pub said_at : Rules → List (ℕ × List ℕ)
said_at rules = map (λ report. (report.at.start, message report.kind)) (printed_reports rules)

abbrev pub from : (start end : ℕ) → Span
from start end = record { start = start; end = end }

-- `math.clamp("a")`, as it stands in a text
abbrev pub clamp_in_text : Rules
clamp_in_text =
    rules_of
    (CallStat (the_expr 0 (from 0 15) (Call (the_expr 1 (from 0 10) (NameExpr [])) (exprs_of (the_expr 3 (from 11 14) (StrExpr (codes "a")) ∷ [])))) ∷ [])
    ((1, UseBuiltin (codes "math.clamp")) ∷ [])

-- a report at the expression with a number, which stands from an offset on
abbrev pub report_of : (start id : ℕ) → ReportKind → Report
report_of start id kind = record { place = at id; at = from start start; kind = kind }

-- `return - -nil`, and `return nil + nil`
abbrev pub minus_nil : Rules
minus_nil = rules_of (returning (e 0 (Unary Minus (e 1 NilExpr)) ∷ []) ∷ []) []
