-- Reported places and the lines of reports, by the position of their module in the order.
use Rattle.std.proofs.Common.{◌≡◌, ◌+◌, ◌++◌, ℕ, zero, suc, ◌⊎◌, inl, inr, List, [], ◌∷◌, map, length, refl, ap, sym, ◌∙◌, subst, arith, Contains}
use Rattle.std.specs.Prelude.{Some, slice_get}
use Rattle.std.proofs.lemmas.List.Elements.{Contains-append_left, Contains-append_right}
use Rattle.luau_tree.specs.declared.names.Place.{Place}
use Rattle.diag_text.specs.declared.line.Line.{Line}
use Rattle.report_rules.specs.Rules.{Rules}
use Rattle.report_rules.specs.Reports.{Report, places_from, reported_places, reports}
use Rattle.type_decl.specs.Signatures.{Signature}
use Rattle.report_rules.specs.Program.{importing, linked_after}
use Rattle.reading_fits.specs.FolderAnalysis.{rules_alone}
use Rattle.reading_fits.specs.OfFolder.{paths_of}
use Rattle.module_graph.specs.declared.needs.ModuleNeeds.{ModuleNeeds}
use Rattle.module_graph.specs.declared.needs.Plan.{Plan}
use Rattle.folder_plan.specs.Files.{File, all_needs}
use Rattle.folder_plan.specs.Order.{modules_from, modules_of, order_of}
use Rattle.source_files.specs.declared.file.SourceFile.{SourceFile}
use Rattle.folder_lines.specs.Files.{planned_files}
use Rattle.folder_lines.specs.Lines.{lines_of_reports, lines_reported, planned_rules, source_at}
use Rattle.folder_lines.proofs.Members.{among_values, in_either, none_there, value_of_one}

moved : (m k : ℕ) → suc m + k ≡ m + suc k
moved m k = omega arith

stayed : (m : ℕ) → m ≡ m + 0
stayed m = omega arith

some_same : (a b : Rules) → Some a ≡ Some b → a ≡ b
some_same a b e = cc

-- a report of a module is at a reported place
pub placed : (m : ℕ) (rules : List Rules) (k : ℕ) (r : Rules) (report : Report) → slice_get rules k ≡ Some r → Contains (reports r) report → Contains (places_from m rules) (m + k, report.place)
placed m [] k r report e there = absurd (cc)
placed m (x ∷ rules) zero r report e there =
    let own = subst (λ (z : Rules). Contains (reports z) report) (sym (some_same x r e)) there in
    subst (λ (n : ℕ). Contains (places_from m (x ∷ rules)) (n, report.place)) (stayed m)
    (Contains-append_left (reported_places m (reports x)) (places_from (suc m) rules) (m, report.place) (among_values (λ (f : Report). (m, f.place)) (reports x) report own))
placed m (x ∷ rules) (suc k) r report e there =
    Contains-append_right (reported_places m (reports x)) (places_from (suc m) rules) (m + suc k, report.place)
    (subst (λ (n : ℕ). Contains (places_from (suc m) rules) (n, report.place)) (moved m k) (placed (suc m) rules k r report e there))

-- a reported place is that of a report of a module
abbrev pub IsPlaceOf : (m : ℕ) → List Rules → (at : ℕ × Place) → Type 0
IsPlaceOf m rules at = (k : ℕ) × (r : Rules) × (report : Report) × (at.0 ≡ m + k) × (slice_get rules k ≡ Some r) × Contains (reports r) report × (report.place ≡ at.1)

pub place_of_one : (m : ℕ) (rules : List Rules) (at : ℕ × Place) → Contains (places_from m rules) at → IsPlaceOf m rules at
place_of_one m [] at c = absurd (none_there at c)
place_of_one m (x ∷ rules) at c = by_part (in_either (reported_places m (reports x)) (places_from (suc m) rules) at c) (λ k. place_of_one (suc m) rules at k)
  where
    by_part : Contains (reported_places m (reports x)) at ⊎ Contains (places_from (suc m) rules) at → (Contains (places_from (suc m) rules) at → IsPlaceOf (suc m) rules at) → IsPlaceOf m (x ∷ rules) at
    by_part (inl k) again =
        let found = value_of_one (λ (f : Report). (m, f.place)) (reports x) at k in
        (0, x, found.0, ap (λ (p : ℕ × Place). p.0) (sym found.2) ∙ stayed m, refl, found.1, ap (λ (p : ℕ × Place). p.1) found.2)
    by_part (inr k) again =
        let h = again k in
        (suc h.0, h.1, h.2, h.3 ∙ moved m h.0, h.4, h.5, h.6)

-- a line of the reports is one of those of a module
abbrev pub IsLineOf : List SourceFile → (order : List ℕ) → List Rules → Line → Type 0
IsLineOf files order rules line = (k : ℕ) × (position : ℕ) × (r : Rules) × (slice_get order k ≡ Some position) × (slice_get rules k ≡ Some r) × Contains (lines_reported (source_at files position) r) line

pub line_of_one : (files : List SourceFile) (order : List ℕ) (rules : List Rules) (line : Line) → Contains (lines_of_reports files order rules) line → IsLineOf files order rules line
line_of_one files [] rules line c = absurd (none_there line c)
line_of_one files (p ∷ order) [] line c = absurd (none_there line c)
line_of_one files (p ∷ order) (x ∷ rules) line c = by_part (in_either (lines_reported (source_at files p) x) (lines_of_reports files order rules) line c) (λ k. line_of_one files order rules line k)
  where
    by_part : Contains (lines_reported (source_at files p) x) line ⊎ Contains (lines_of_reports files order rules) line → (Contains (lines_of_reports files order rules) line → IsLineOf files order rules line) → IsLineOf files (p ∷ order) (x ∷ rules) line
    by_part (inl k) again = (0, p, x, refl, refl, k)
    by_part (inr k) again = let h = again k in (suc h.0, h.1, h.2, h.3, h.4, h.5)

-- the lines of each module are among those of the reports
pub lined : (files : List SourceFile) (order : List ℕ) (rules : List Rules) (k position : ℕ) (r : Rules) (line : Line) → slice_get order k ≡ Some position → slice_get rules k ≡ Some r
    → Contains (lines_reported (source_at files position) r) line → Contains (lines_of_reports files order rules) line
lined files [] rules k position r line e f there = absurd (cc)
lined files (p ∷ order) [] k position r line e f there = absurd (cc)
lined files (p ∷ order) (x ∷ rules) zero position r line e f there =
    let at : position ≡ p = cc in
    let own = subst (λ (z : ℕ). Contains (lines_reported (source_at files z) r) line) at there in
    Contains-append_left (lines_reported (source_at files p) x) (lines_of_reports files order rules) line (subst (λ (z : Rules). Contains (lines_reported (source_at files p) z) line) (sym (some_same x r f)) own)
lined files (p ∷ order) (x ∷ rules) (suc k) position r line e f there =
    Contains-append_right (lines_reported (source_at files p) x) (lines_of_reports files order rules) line (lined files order rules k position r line e f there)

-- each module of the order has its rules
linked_long : (before rules : List Rules) → length (linked_after before rules) ≡ length rules
linked_long before [] = refl
linked_long before (r ∷ rules) = ap suc (linked_long (before ++ importing before r ∷ []) rules)

map_long : {X Y : Type 0} (f : X → Y) (xs : List X) → length (map f xs) ≡ length xs
map_long f [] = refl
map_long f (x ∷ xs) = ap suc (map_long f xs)

modules_long : (needs : List ModuleNeeds) (files : List File) (order : List ℕ) (home : ℕ) (positions : List ℕ) → length (modules_from needs files order home positions) ≡ length positions
modules_long needs files order home [] = refl
modules_long needs files order home (p ∷ rest) = ap suc (modules_long needs files order (suc home) rest)

pub rules_long : (table : List (List ℕ × Signature)) (files : List SourceFile) (plan : Plan) → length (planned_rules table files plan) ≡ length (order_of plan)
rules_long table files plan =
    linked_long [] (map (rules_alone table) (modules_of table (planned_files (paths_of table) files) plan))
    ∙ map_long (rules_alone table) (modules_of table (planned_files (paths_of table) files) plan)
    ∙ modules_long (all_needs (paths_of table) (planned_files (paths_of table) files)) (planned_files (paths_of table) files) (order_of plan) 1 (order_of plan)
