-- The lines that a run writes tell the reports of the modules that it checks.
use Rattle.std.proofs.Common.{◌≡◌, ◌↔◌, ℕ, true, List, [], Option, Some, None, IfSome, flat_map, map, refl, sym, subst, arith, Contains, AllPairs}
use Rattle.std.specs.Cmp.{IsTotalOrder}
use Rattle.std.specs.FinMap.{IsAntisymmetric}
use Rattle.std.specs.declared.cmp.Ordering.TheVariants.{Less}
use Rattle.luau_tree.specs.declared.names.Place.{Place}
use Rattle.diag_text.specs.declared.line.Line.{Line}
use Rattle.diag_text.specs.Line.{line_cmp, sorted_lines, text_of}
use Rattle.outside.specs.Contents.{Contents, File}
use Rattle.outside.specs.Written.{Appends}
use Rattle.nonstrict_cli.specs.declared.status.Limit.{Limit}
use Rattle.nonstrict_cli.specs.Checked.{Module, checked, checked_for, checked_modules, checked_within}
use Rattle.nonstrict_cli.specs.Command.{command}
use Rattle.nonstrict_cli.specs.Folder.{limit_of, module_paths}
use Rattle.nonstrict_cli.specs.Lines.{lines_by_module, lines_of}
use Rattle.nonstrict_cli.specs.Output.{output, output_for, output_within}
use Rattle.nonstrict_cli.specs.Reports.{HasLine, IsReported, ReportsAreCertain, TellReports, WritesCertainReports, line_of, reports, says_failure}
use Rattle.nonstrict_cli.proofs.Members.{among_values, kept, none_there, passes, value_of_one}
use Rattle.nonstrict_cli.proofs.RefusedLines.{of_files}
use Rattle.nonstrict_cli.proofs.ReportedLines.{failures_in, lines_are_reports}

unwrapped : {X : Type 0} (x y : X) → ◌≡◌ {A = Option X} (Some x) (Some y) → x ≡ y
unwrapped x y e = cc

-- a line of a folder that says what fails is that of a report
one_is_told : (files : List File) (line : Line) → Contains (lines_by_module files) line → says_failure line ≡ true → IsReported (checked_modules files) line
one_is_told files line there fails =
    let modules = checked_modules files in
    let among : Contains (map Some (failures_in (lines_by_module files))) (Some line) = among_values Some (failures_in (lines_by_module files)) line (kept says_failure (lines_by_module files) line there fails) in
    value_of_one (line_of modules) (reports modules) (Some line) (subst (λ (ls : List (Option Line)). Contains ls (Some line)) (lines_are_reports files) among)

-- a report has a line of the folder
one_has_line : (files : List File) (report : ℕ × Place) → Contains (reports (checked_modules files)) report → HasLine (checked_modules files) (lines_by_module files) report
one_has_line files report there =
    let modules = checked_modules files in
    let among : Contains (map Some (failures_in (lines_by_module files))) (line_of modules report) =
    subst (λ (ls : List (Option Line)). Contains ls (line_of modules report)) (sym (lines_are_reports files)) (among_values (line_of modules) (reports modules) report there) in
    let found = value_of_one Some (failures_in (lines_by_module files)) (line_of modules report) among in
    let line = passes says_failure (lines_by_module files) found.0 found.1 in
    (found.0, line.0, line.1, sym found.2)

-- lines that are sorted, each once, tell the same
pub folder_is_told : IsTotalOrder line_cmp → IsAntisymmetric line_cmp → ((lines : List Line) → AllPairs (λ a b. line_cmp a b ≡ Less) (sorted_lines lines)) → ((lines : List Line) (line : Line) → Contains (sorted_lines lines) line ↔ Contains lines line)
    → (files : List File) → TellReports (lines_of files) (checked_modules files)
folder_is_told total exact in_order same files = record {
  told = λ line there fails. one_is_told files line ((same (lines_by_module files) line).0 there) fails;
  others = λ line there quiet. of_files files (module_paths files) line ((same (lines_by_module files) line).0 there) quiet;
  all = λ report there. let found = one_has_line files report there in (found.0, (same (lines_by_module files) found.0).1 found.1, found.2, found.3);
  once = in_order (lines_by_module files);
}

-- no line tells the reports of no module
nothing_is_told : TellReports [] []
nothing_is_told = record {
  told = λ line there fails. absurd (none_there line there);
  others = λ line there quiet. absurd (none_there line there);
  all = λ report there. absurd (none_there report there);
  once = λ i j d below within. absurd (omega arith);
}

-- what is told of a run: lines that make its text, and modules
abbrev Told : (bytes : List ℕ) → List Module → Type 0
Told bytes modules = (lines : List Line) × (bytes ≡ flat_map text_of lines) × TellReports lines modules × ReportsAreCertain modules

by_limit : ((modules : List Module) → ReportsAreCertain modules) → ((files : List File) → TellReports (lines_of files) (checked_modules files)) → (limit : Option Limit) (files : List File) → Told (output_within limit files).bytes (checked_within limit files)
by_limit certain tell None files = (lines_of files, refl, tell files, certain (checked_modules files))
by_limit certain tell (Some limit) files = ([], refl, nothing_is_told, certain [])

by_folder : ((modules : List Module) → ReportsAreCertain modules) → ((files : List File) → TellReports (lines_of files) (checked_modules files)) → (folder : Option (List ℕ)) (contents : Contents) → Told (output_for folder contents).bytes (checked_for folder contents)
by_folder certain tell None contents = ([], refl, nothing_is_told, certain [])
by_folder certain tell (Some folder) contents = by_limit certain tell (limit_of (contents folder)) (contents folder)

pub run_is_told : ((modules : List Module) → ReportsAreCertain modules) → ((files : List File) → TellReports (lines_of files) (checked_modules files)) → (words : List (List ℕ)) (contents : Contents)
    → (lines : List Line) × ((output words contents).bytes ≡ flat_map text_of lines) × TellReports lines (checked words contents) × ReportsAreCertain (checked words contents)
run_is_told certain tell words contents = by_folder certain tell (command words) contents

-- so where a sink was given the output, it was given such lines
pub written_is_told : (told : Option Contents) (words : List (List ℕ)) (before after : Option (List ℕ))
    → ((words : List (List ℕ)) (contents : Contents) → (lines : List Line) × ((output words contents).bytes ≡ flat_map text_of lines) × TellReports lines (checked words contents) × ReportsAreCertain (checked words contents))
    → IfSome told (λ contents. Appends before after (output words contents).bytes) → IfSome told (λ contents. WritesCertainReports before after (checked words contents))
written_is_told None words before after law written = tt
written_is_told (Some contents) words before after law written =
    let l = law words contents in
    (l.0, subst (λ (bytes : List ℕ). Appends before after bytes) l.1 written, l.2, l.3)
