-- The lines of a folder.
use Rattle.std.specs.Prelude.{◌≡◌, ◌++◌, ℕ, List, [], ◌∷◌, map, zip, codes, flat_map, slice_get}
use Rattle.std.specs.Option.{option_map_or}
use Rattle.luau_tree.specs.declared.position.Pos.{Pos}
use Rattle.luau_tree.specs.declared.position.Span.{Span}
use Rattle.luau_tree.specs.Position.{pos_at}
use Rattle.diag_text.specs.declared.line.Line.{Line}
use Rattle.diag_text.specs.declared.line.LineKind.TheVariants as kinds
use Rattle.diag_text.specs.Line.{sorted_lines}
use Rattle.type_decl.specs.Signatures.{Signature}
use Rattle.report_rules.specs.Rules.{Rules}
use Rattle.report_rules.specs.Printed.{printed_reports}
use Rattle.report_lines.specs.Lines.{report_line}
use Rattle.reading_fits.specs.FolderAnalysis.{rules_in}
use Rattle.reading_fits.specs.OfFolder.{paths_of}
use Rattle.module_graph.specs.declared.needs.Fate.{Fate}
use Rattle.module_graph.specs.declared.needs.Fate.TheVariants as fate
use Rattle.module_graph.specs.declared.needs.GraphRefusal.{GraphRefusal}
use Rattle.module_graph.specs.declared.needs.GraphRefusal.TheVariants as graph
use Rattle.module_graph.specs.declared.needs.Plan.{Plan}
use Rattle.folder_plan.specs.Order.{modules_of, order_of}
use Rattle.source_files.specs.declared.file.SourceFile.{SourceFile}
use Rattle.source_files.specs.declared.reason.Reason.{Reason}
use Rattle.source_files.specs.declared.reason.Reason.TheVariants.{MissingModule, RequireCycle}
use Rattle.source_files.specs.Names.{text_behind_mark}
use Rattle.source_files.specs.Reading.{Reading, Refused, Read}
use Rattle.source_files.specs.Reason.{reason_text}
use Rattle.folder_lines.specs.Files.{IsPlanFor, planned_files, readings}

-- the line of a file that is refused, with the place and the reason
abbrev pub refusal_line : (path : List ℕ) → Pos → Reason → Line
refusal_line path at why = record { path = path; at = at; kind = kinds.Refused; message = codes "refused: " ++ reason_text why }

-- the line of a file that is skipped, since it requires the file at a path that isn't checked
abbrev pub skip_line : (path : List ℕ) → Pos → (needed : List ℕ) → Line
skip_line path at needed = record { path = path; at = at; kind = kinds.Skipped; message = codes "skipped: requires " ++ needed }

-- the line of a file that is refused for what stands in it
abbrev pub lines_read : SourceFile → Reading → List Line
lines_read file (Refused at why) = refusal_line file.path at why ∷ []
lines_read file (Read text block) = []

-- why the graph refuses a module, as it is told
abbrev pub graph_reason : GraphRefusal → Reason
graph_reason graph.MissingModule = MissingModule
graph_reason graph.RequireCycle = RequireCycle

-- the place where a span of a file begins
abbrev pub place_in : SourceFile → Span → Pos
place_in file at = pos_at (text_behind_mark file.text) at.start

-- the path of the file at a position
abbrev pub path_at : List SourceFile → ℕ → List ℕ
path_at files position = option_map_or (λ file. file.path) (slice_get files position) []

-- the line of a file that isn't checked for what becomes of it in the plan
abbrev pub lines_planned : List SourceFile → SourceFile → Fate → List Line
lines_planned files file (fate.Refused why at) = refusal_line file.path (place_in file at) (graph_reason why) ∷ []
lines_planned files file (fate.Skipped at needs) = skip_line file.path (place_in file at) (path_at files needs) ∷ []
lines_planned files file (fate.Checked level needs) = []
lines_planned files file fate.Already = []

-- the lines of the reports of one module, which is that of a file
abbrev pub lines_reported : SourceFile → Rules → List Line
lines_reported file rules = map (report_line file.path (text_behind_mark file.text)) (printed_reports rules)

-- past the last file stands none
abbrev pub no_file : SourceFile
no_file = record { path = []; text = [] }

abbrev pub source_at : List SourceFile → ℕ → SourceFile
source_at files position = option_map_or (λ file. file) (slice_get files position) no_file

-- the lines of what is refused in the files themselves, of what the plan refuses or skips, and of the reports of the checked
-- modules in their order
abbrev pub lines_of_readings : (table : List (List ℕ)) → List SourceFile → List Line
lines_of_readings table files = flat_map (λ pair. lines_read pair.0 pair.1) (zip files (readings table files))

abbrev pub lines_of_plan : List SourceFile → Plan → List Line
lines_of_plan files plan = flat_map (λ pair. lines_planned files pair.0 pair.1) (zip files plan.fates)

abbrev pub lines_of_reports : List SourceFile → (order : List ℕ) → List Rules → List Line
lines_of_reports files order rules = flat_map (λ pair. lines_reported (source_at files pair.0) pair.1) (zip order rules)

-- the rules of the checked modules of a folder, in the order of its plan
abbrev pub planned_rules : (table : List (List ℕ × Signature)) → List SourceFile → Plan → List Rules
planned_rules table files plan = rules_in table (modules_of table (planned_files (paths_of table) files) plan)

-- the lines of a folder by its plan, in order, each once
abbrev pub lines_by : (table : List (List ℕ × Signature)) → List SourceFile → Plan → List Line
lines_by table files plan = sorted_lines (lines_of_readings (paths_of table) files
    ++ (lines_of_plan files plan ++ lines_of_reports files (order_of plan) (planned_rules table files plan)))

-- some lines are those of a folder
pub record AreLines (table : List (List ℕ × Signature)) (files : List SourceFile) (lines : List Line) : Type 0 where
  pub plan : Plan
  pub planned : IsPlanFor table files plan
  pub same : lines ≡ lines_by table files plan
