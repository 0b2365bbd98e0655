-- What is claimed of the lines of a folder: each that says what fails is that of a report, and the reports are certain.
use Rattle.std.specs.Prelude.{◌≡◌, ◌++◌, ◌⊎◌, ℕ, Bool, true, false, not, List, Some, Contains, AllPairs, codes, slice_get}
use Rattle.std.specs.declared.cmp.Ordering.TheVariants.{Less}
use Rattle.luau_tree.specs.declared.names.Place.{Place}
use Rattle.diag_text.specs.declared.line.Line.{Line}
use Rattle.diag_text.specs.declared.line.LineKind.{LineKind}
use Rattle.diag_text.specs.declared.line.LineKind.TheVariants as kinds
use Rattle.diag_text.specs.Line.{line_cmp}
use Rattle.luau_run.specs.Program.{Program}
use Rattle.type_decl.specs.Signatures.{Signature}
use Rattle.report_rules.specs.Rules.{Rules}
use Rattle.report_rules.specs.Reports.{Report, reports, places_of_program}
use Rattle.report_lines.specs.Lines.{report_line}
use Rattle.reading_fits.specs.FolderAnalysis.{analysis_of}
use Rattle.reading_fits.specs.OfFolder.{paths_of}
use Rattle.module_graph.specs.declared.needs.Plan.{Plan}
use Rattle.folder_plan.specs.Order.{modules_of, order_of}
use Rattle.source_files.specs.declared.file.SourceFile.{SourceFile}
use Rattle.source_files.specs.declared.reason.Reason.{Reason}
use Rattle.source_files.specs.Names.{text_behind_mark}
use Rattle.source_files.specs.Reason.{reason_text}
use Rattle.folder_lines.specs.Files.{planned_files}
use Rattle.folder_lines.specs.Lines.{planned_rules, source_at}

-- whether a kind of lines says that a file isn't checked
abbrev pub is_refusal : LineKind → Bool
is_refusal kinds.Refused = true
is_refusal kinds.Skipped = true
is_refusal _ = false

-- whether a line says what fails
abbrev pub says_failure : Line → Bool
says_failure line = not (is_refusal line.kind)

-- a line says why a file isn't checked
abbrev pub SaysRefusal : Line → Type 0
SaysRefusal line =
    ((why : Reason) × (line.message ≡ codes "refused: " ++ reason_text why))
    ⊎ ((needed : List ℕ) × (line.message ≡ codes "skipped: requires " ++ needed))

-- the checked modules of a folder by its plan, as they run
abbrev pub planned_program : (table : List (List ℕ × Signature)) → List SourceFile → Plan → Program
planned_program table files plan = (analysis_of table (modules_of table (planned_files (paths_of table) files) plan)).program

-- the reported places of the checked modules of a folder: each in a module, by the number that counts these from 0
abbrev pub planned_places : (table : List (List ℕ × Signature)) → List SourceFile → Plan → List (ℕ × Place)
planned_places table files plan = places_of_program (planned_rules table files plan)

-- a line tells a report at a place: it is the line of the report in the file of that module
pub record Tells (table : List (List ℕ × Signature)) (files : List SourceFile) (plan : Plan) (line : Line) (at : ℕ × Place) : Type 0 where
  pub position : ℕ
  pub rules : Rules
  pub report : Report
  pub ordered : slice_get (order_of plan) at.0 ≡ Some position
  pub ruled : slice_get (planned_rules table files plan) at.0 ≡ Some rules
  pub reported : Contains (reports rules) report
  pub placed : report.place ≡ at.1
  pub same : line ≡ report_line (source_at files position).path (text_behind_mark (source_at files position).text) report

-- some lines tell the reports of a folder: each that says what fails tells one, each other says why a file isn't checked, each
-- reported place has a line, and no line stands twice
pub record TellReports (table : List (List ℕ × Signature)) (files : List SourceFile) (plan : Plan) (lines : List Line) : Type 0 where
  pub told : (line : Line) → Contains lines line → says_failure line ≡ true
      → (at : ℕ × Place) × Contains (planned_places table files plan) at × Tells table files plan line at
  pub others : (line : Line) → Contains lines line → says_failure line ≡ false → SaysRefusal line
  pub all : (at : ℕ × Place) → Contains (planned_places table files plan) at
      → (line : Line) × Contains lines line × (says_failure line ≡ true) × Tells table files plan line at
  pub once : AllPairs (λ a b. line_cmp a b ≡ Less) lines
