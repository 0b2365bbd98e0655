-- The lines of a folder tell its reports.
use Rattle.std.proofs.Common.{◌≡◌, ◌+◌, ◌<◌, ◌↔◌, ◌++◌, ℕ, Bool, true, false, not, ◌⊎◌, inl, inr, List, length, get_or, refl, ap, sym, ◌∙◌, subst, arith, Contains, AllPairs}
use Rattle.std.specs.Prelude.{Some, slice_get, zip}
use Rattle.std.specs.declared.cmp.Ordering.TheVariants.{Less}
use Rattle.std.proofs.lemmas.List.Elements.{Contains-append_right}
use Rattle.std.proofs.lemmas.Option.{slice_get-get_or, slice_get_within}
use Rattle.luau_tree.specs.declared.names.Place.{Place}
use Rattle.diag_text.specs.declared.line.Line.{Line}
use Rattle.diag_text.specs.Line.{line_cmp, sorted_lines}
use Rattle.type_decl.specs.Signatures.{Signature}
use Rattle.report_rules.specs.Checks.{ReportKind, Argument, Missing, Operand, ValueOf, ParameterOf}
use Rattle.report_rules.specs.Printed.{printed}
use Rattle.report_rules.specs.Reports.{Report, reports}
use Rattle.report_rules.specs.Rules.{Rules}
use Rattle.report_lines.specs.Lines.{line_kind, report_line}
use Rattle.reading_fits.specs.OfFolder.{paths_of}
use Rattle.module_graph.specs.declared.needs.Fate.{Fate}
use Rattle.module_graph.specs.declared.needs.Plan.{Plan}
use Rattle.folder_plan.specs.Order.{order_of}
use Rattle.source_files.specs.declared.file.SourceFile.{SourceFile}
use Rattle.source_files.specs.Names.{text_behind_mark}
use Rattle.source_files.specs.Reading.{Reading}
use Rattle.folder_lines.specs.Files.{readings}
use Rattle.folder_lines.specs.Lines.{AreLines, lines_of_plan, lines_of_readings, lines_of_reports, lines_planned, lines_read, lines_reported, planned_rules, source_at}
use Rattle.folder_lines.specs.Reported.{SaysRefusal, TellReports, Tells, is_refusal, planned_places, says_failure}
use Rattle.folder_lines.proofs.Members.{among_values, in_either, value_of_one}
use Rattle.folder_lines.proofs.Placed.{line_of_one, lined, place_of_one, placed, rules_long}
use Rattle.folder_lines.proofs.Quiet.{IsQuiet, of_all, of_fate, of_reading}

-- a line of a report says what fails
failing : (kind : ReportKind) → not (is_refusal (line_kind kind)) ≡ true
failing (Argument index path) = refl
failing (Missing index path) = refl
failing (Operand op) = refl
failing (ValueOf name) = refl
failing (ParameterOf name) = refl

from_first : (k : ℕ) → 0 + k ≡ k
from_first k = omega arith

clash : {X : Type 0} (b : Bool) → b ≡ true → b ≡ false → X
clash b t f = absurd (cc)

module _ (table : List (List ℕ × Signature)) (files : List SourceFile) (plan : Plan)
    (given : (found : List Report) (report : Report) → Contains (printed found) report ↔ Contains found report)
  where
    abbrev read : List Line
    read = lines_of_readings (paths_of table) files

    abbrev planned : List Line
    planned = lines_of_plan files plan

    abbrev rules : List Rules
    rules = planned_rules table files plan

    abbrev reported : List Line
    reported = lines_of_reports files (order_of plan) rules

    abbrev all : List Line
    all = read ++ (planned ++ reported)

    quiet_read : (line : Line) → Contains read line → IsQuiet line
    quiet_read line c = of_all (λ (pair : SourceFile × Reading). lines_read pair.0 pair.1) (λ pair l k. of_reading pair.0 pair.1 l k) (zip files (readings (paths_of table) files)) line c

    quiet_planned : (line : Line) → Contains planned line → IsQuiet line
    quiet_planned line c = of_all (λ (pair : SourceFile × Fate). lines_planned files pair.0 pair.1) (λ pair l k. of_fate files pair.0 pair.1 l k) (zip files plan.fates) line c

    -- a line is quiet, or one of the reports
    which : (line : Line) → Contains all line → IsQuiet line ⊎ Contains reported line
    which line c = by_part (in_either read (planned ++ reported) line c)
      where
        by_rest : Contains planned line ⊎ Contains reported line → IsQuiet line ⊎ Contains reported line
        by_rest (inl k) = inl (quiet_planned line k)
        by_rest (inr k) = inr k

        by_part : Contains read line ⊎ Contains (planned ++ reported) line → IsQuiet line ⊎ Contains reported line
        by_part (inl k) = inl (quiet_read line k)
        by_part (inr k) = by_rest (in_either planned reported line k)

    -- the report that a line of the reports tells
    tells : (line : Line) → Contains reported line → (at : ℕ × Place) × Contains (planned_places table files plan) at × Tells table files plan line at
    tells line c =
        let one = line_of_one files (order_of plan) rules line c in
        let file = source_at files one.1 in
        let found = value_of_one (report_line file.path (text_behind_mark file.text)) (printed (reports one.2)) line one.5 in
        let report : Report = found.0 in
        let there : Contains (reports one.2) report = (given (reports one.2) report).0 found.1 in (
          (one.0, report.place),
          subst (λ (k : ℕ). Contains (planned_places table files plan) (k, report.place)) (from_first one.0) (placed 0 rules one.0 one.2 report one.4 there),
          record {
            position = one.1;
            rules = one.2;
            report = report;
            ordered = one.3;
            ruled = one.4;
            reported = there;
            placed = refl;
            same = sym found.2;
          },
        )

    fails : (line : Line) → Contains reported line → says_failure line ≡ true
    fails line c =
        let t = tells line c in
        ap says_failure t.2.same ∙ failing t.2.report.kind

    told_of : (line : Line) → says_failure line ≡ true → IsQuiet line ⊎ Contains reported line → (at : ℕ × Place) × Contains (planned_places table files plan) at × Tells table files plan line at
    told_of line f (inl q) = clash (says_failure line) f q.1
    told_of line f (inr k) = tells line k

    other_of : (line : Line) → says_failure line ≡ false → IsQuiet line ⊎ Contains reported line → SaysRefusal line
    other_of line f (inl q) = q.0
    other_of line f (inr k) = clash (says_failure line) (fails line k) f

    -- each reported place has a line
    has_line : (at : ℕ × Place) → Contains (planned_places table files plan) at → (line : Line) × Contains all line × (says_failure line ≡ true) × Tells table files plan line at
    has_line at c =
        let one = place_of_one 0 rules at c in
        let report : Report = one.2 in
        let first : at.0 ≡ one.0 = one.3 ∙ from_first one.0 in
        let within = slice_get_within rules one.0 one.1 one.4 in
        let within_order : one.0 < length (order_of plan) = omega (arith, within, rules_long table files plan) in
        let position = get_or (order_of plan) one.0 0 in
        let ordered : slice_get (order_of plan) one.0 ≡ Some position = slice_get-get_or (order_of plan) one.0 0 within_order in
        let file = source_at files position in
        let line = report_line file.path (text_behind_mark file.text) report in
        let own : Contains (lines_reported file one.1) line = among_values (report_line file.path (text_behind_mark file.text)) (printed (reports one.1)) report ((given (reports one.1) report).1 one.5) in
        let there : Contains reported line = lined files (order_of plan) rules one.0 position one.1 line ordered one.4 own in (
          line,
          Contains-append_right read (planned ++ reported) line (Contains-append_right planned reported line there),
          failing report.kind,
          record {
            position = position;
            rules = one.1;
            report = report;
            ordered = ap (slice_get (order_of plan)) first ∙ ordered;
            ruled = ap (slice_get rules) first ∙ one.4;
            reported = one.5;
            placed = one.6;
            same = refl;
          },
        )

    pub lines_tell : ((lines : List Line) → AllPairs (λ a b. line_cmp a b ≡ Less) (sorted_lines lines)) → ((lines : List Line) (line : Line) → Contains (sorted_lines lines) line ↔ Contains lines line)
        → TellReports table files plan (sorted_lines all)
    lines_tell in_order same = record {
      told = λ line there f. told_of line f (which line ((same all line).0 there));
      others = λ line there f. other_of line f (which line ((same all line).0 there));
      all = λ at there. let found = has_line at there in (found.0, (same all found.0).1 found.1, found.2, found.3);
      once = in_order all;
    }

pub made_lines_tell : ((found : List Report) (report : Report) → Contains (printed found) report ↔ Contains found report)
    → ((lines : List Line) → AllPairs (λ a b. line_cmp a b ≡ Less) (sorted_lines lines)) → ((lines : List Line) (line : Line) → Contains (sorted_lines lines) line ↔ Contains lines line)
    → (table : List (List ℕ × Signature)) (files : List SourceFile) (lines : List Line) (made : AreLines table files lines) → TellReports table files made.plan lines
made_lines_tell given in_order same table files lines made =
    subst (λ (ls : List Line). TellReports table files made.plan ls) (sym made.same) (lines_tell table files made.plan given in_order same)
