-- The reports of a module, and those of a program.
use Rattle.std.specs.Prelude.{ℕ, suc, List, [], ◌∷◌, ◌++◌, map}
use Rattle.luau_tree.specs.declared.position.Span.{Span}
use Rattle.luau_tree.specs.declared.names.Place.{Place}
use Rattle.report_rules.specs.Rules.{Rules}
use Rattle.report_rules.specs.Seen.{seen_module}
use Rattle.report_rules.specs.Context.{none}
use Rattle.report_rules.specs.Checks.{ReportKind}
use Rattle.report_rules.specs.Findings.{Finding, found_block}

-- a report: its place, where that stands in the text, and what it says
pub record Report : Type 0 where
  pub place : Place
  pub at : Span
  pub kind : ReportKind

-- what is found in a module
abbrev pub findings : Rules → List Finding
findings rules = found_block rules (seen_module rules) rules.reading.block none none none

-- one report for each kind at a place
abbrev pub reports_at : Finding → List Report
reports_at finding = map (λ kind. record { place = finding.place; at = finding.at; kind = kind }) finding.kinds

abbrev pub reports_of : List Finding → List Report
reports_of [] = []
reports_of (finding ∷ findings) = reports_at finding ++ reports_of findings

-- the reports of a module, in the order of their places
abbrev pub reports : Rules → List Report
reports rules = reports_of (findings rules)

-- the places of a module's reports, with the module's position in its program
abbrev pub reported_places : (module_at : ℕ) → List Report → List (ℕ × Place)
reported_places module_at found = map (λ report. (module_at, report.place)) found

-- the reported places of the modules of a program from a position on
abbrev pub places_from : (module_at : ℕ) → List Rules → List (ℕ × Place)
places_from module_at [] = []
places_from module_at (rules ∷ modules) = reported_places module_at (reports rules) ++ places_from (suc module_at) modules

-- the reported places of a program
abbrev pub places_of_program : List Rules → List (ℕ × Place)
places_of_program modules = places_from 0 modules
