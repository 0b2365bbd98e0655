-- What is claimed of what a run writes: its lines tell the reports of the modules that it checked,
-- and these are certain.
use Rattle.std.specs.Prelude.{◌≡◌, ℕ, Bool, true, false, not, ◌++◌, List, Option, Some, Contains, AllPairs, slice_get, option_map, map, flat_map, codes}
use Rattle.std.specs.Option.{option_and_then}
use Rattle.std.specs.declared.cmp.Ordering.TheVariants.{Less}
use Rattle.luau_tree.specs.declared.names.Place.{Place}
use Rattle.luau_tree.specs.Nodes.{expr_start}
use Rattle.luau_tree.specs.Position.{pos_at}
use Rattle.luau_run.specs.Program.{Program}
use Rattle.luau_run.specs.Certain.{Certain}
use Rattle.diag_text.specs.declared.line.Line.{Line}
use Rattle.diag_text.specs.Line.{line_cmp, text_of}
use Rattle.outside.specs.Written.{Appends}
use Rattle.rules_certain.specs.Calls.{Written, AllReadAs, block_of}
use Rattle.rules_certain.specs.OneNumber.{DeclaresAbs}
use Rattle.rules_certain.specs.Reports.{reports_of}
use Rattle.nonstrict_cli.specs.Checked.{Module}
use Rattle.nonstrict_cli.specs.Lines.{argument_line}
use Rattle.nonstrict_cli.specs.Output.{is_refusal}
use Rattle.nonstrict_cli.specs.declared.reason.Reason.{Reason}
use Rattle.nonstrict_cli.specs.Reason.{reason_text}

-- the calls of each module
abbrev pub calls_of : List Module → List (List Written)
calls_of modules = map (λ m. m.calls) modules

-- the reports of some checked modules: places, each in a module by the number that counts them from
-- 0
abbrev pub reports : List Module → List (ℕ × Place)
reports modules = reports_of (calls_of modules)

-- the line of a report at a place of a module: it has the module's path, and stands where the
-- expression begins
abbrev pub line_at : Module → Place → Option Line
line_at m place =
    let start = expr_start (block_of 0 m.calls) place in
    option_map (λ offset. argument_line m.path (pos_at m.text offset)) start

-- the line of a report in these modules
abbrev pub line_of : List Module → (report : ℕ × Place) → Option Line
line_of modules report = option_and_then (λ m. line_at m report.1) (slice_get modules report.0)

-- whether a line says what fails, and not that a file isn't checked
abbrev pub says_failure : Line → Bool
says_failure line = not (is_refusal line.kind)

-- a line says why a file isn't checked
abbrev pub SaysRefusal : Line → Type 0
SaysRefusal line = (why : Reason) × (line.message ≡ codes "refused: " ++ reason_text why)

-- a line is that of a report
abbrev pub IsReported : List Module → Line → Type 0
IsReported modules line =
    (report : ℕ × Place) × Contains (reports modules) report × (line_of modules report ≡ Some line)

-- a report has its line among these
abbrev pub HasLine : List Module → List Line → (report : ℕ × Place) → Type 0
HasLine modules lines report =
    (line : Line) × Contains lines line × (says_failure line ≡ true) ×
    (line_of modules report ≡ Some line)

-- some lines tell the reports of these modules: each that says what fails is that of a report, each
-- other says why a file isn't checked, each report has its line, and no line stands twice
pub record TellReports (lines : List Line) (modules : List Module) : Type 0 where
  pub told : (line : Line) → Contains lines line → says_failure line ≡ true → IsReported modules line
  pub others : (line : Line) → Contains lines line → says_failure line ≡ false → SaysRefusal line
  pub all : (report : ℕ × Place) → Contains (reports modules) report → HasLine modules lines report
  pub once : AllPairs (λ a b. line_cmp a b ≡ Less) lines

-- the reports of these modules are certain: of every program that the modules are read as, over
-- whatever builtins of which `math.abs` is declared as a checked function of one number, no
-- activation that reaches a reported place is left but by a run-time error
abbrev pub ReportsAreCertain : List Module → Type 0
ReportsAreCertain modules =
    (program : Program) → DeclaresAbs program.builtins →
    AllReadAs (calls_of modules) program.modules → Certain program (reports modules)

-- what a sink was given in a call is the text of lines that tell the reports of these modules, and
-- the reports are certain
abbrev pub WritesCertainReports : Option (List ℕ) → Option (List ℕ) → List Module → Type 0
WritesCertainReports before after modules =
    (lines : List Line) × Appends before after (flat_map text_of lines) ×
    TellReports lines modules × ReportsAreCertain modules
