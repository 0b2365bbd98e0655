-- The lines of a folder that say what fails are those of the reports of its checked modules.
use Rattle.std.proofs.Common.{◌≡◌, ◌≤◌, ◌-◌, ℕ, suc, Bool, true, false, if◌then◌else◌, List, [], ◌∷◌, ◌++◌, Option, Some, map, filter, flat_map, option_map, refl, ap, sym, ◌∙◌, arith, slice_get}
use Rattle.std.specs.Option.{option_and_then}
use Rattle.std.proofs.lemmas.List.{map-append}
use Rattle.luau_tree.specs.declared.names.Place.{Place}
use Rattle.diag_text.specs.declared.line.Line.{Line}
use Rattle.outside.specs.Contents.{File}
use Rattle.luau_tree.specs.declared.position.Pos.{Pos}
use Rattle.luau_tree.specs.Nodes.{expr_start}
use Rattle.luau_tree.specs.Position.{pos_at}
use Rattle.rules_certain.specs.Literal.{is_number}
use Rattle.rules_certain.specs.Calls.{Written, block_of, after_call}
use Rattle.rules_certain.specs.Reports.{argument_of, reports_in, reports_from}
use Rattle.nonstrict_cli.specs.Checked.{Module, checked_modules, modules_for}
use Rattle.nonstrict_cli.specs.Fate.{Fate, Refused, Checked, fate_at}
use Rattle.nonstrict_cli.specs.Folder.{module_paths}
use Rattle.nonstrict_cli.specs.Form.{offsets_of}
use Rattle.nonstrict_cli.specs.Lines.{argument_line, lines_by_module, lines_for}
use Rattle.nonstrict_cli.specs.Reports.{line_at, line_of, reports, says_failure}
use Rattle.nonstrict_cli.proofs.Reported.{starts_of_reports}

-- the line of a report in modules of which the first has this number
abbrev line_from : ℕ → List Module → ℕ × Place → Option Line
line_from at modules report = option_and_then (λ m. line_at m report.1) (slice_get modules (report.0 - at))

nothing_left : (k : ℕ) → k - k ≡ 0
nothing_left k = omega arith

all_left : (k : ℕ) → k - 0 ≡ k
all_left k = omega arith

-- the reports of the first module have their lines in it
in_first : (at n : ℕ) (m : Module) (modules : List Module) (calls : List Written)
    → map (line_from at (m ∷ modules)) (reports_in at n calls) ≡ map (λ (r : ℕ × Place). line_at m r.1) (reports_in at n calls)
in_first at n m modules [] = refl
in_first at n m modules (w ∷ calls) = by_test (is_number w.literal) (in_first at (after_call n) m modules calls)
  where
    by_test : (b : Bool) → map (line_from at (m ∷ modules)) (reports_in at (after_call n) calls) ≡ map (λ (r : ℕ × Place). line_at m r.1) (reports_in at (after_call n) calls)
        → map (line_from at (m ∷ modules)) (if b then reports_in at (after_call n) calls else (at, argument_of n) ∷ reports_in at (after_call n) calls)
        ≡ map (λ (r : ℕ × Place). line_at m r.1) (if b then reports_in at (after_call n) calls else (at, argument_of n) ∷ reports_in at (after_call n) calls)
    by_test true e = e
    by_test false e = ap (λ k. option_and_then (λ c. line_at c (argument_of n)) (slice_get (m ∷ modules) k) ∷ map (line_from at (m ∷ modules)) (reports_in at (after_call n) calls)) (nothing_left at)
        ∙ ap (λ xs. line_at m (argument_of n) ∷ xs) e

one_fewer : (k at : ℕ) → suc at ≤ k → k - at ≡ suc (k - suc at)
one_fewer k at l = omega (arith, l)

-- the line of a report in a module behind the first
past_first : (at : ℕ) (m : Module) (modules : List Module) (k : ℕ) (p : Place) → suc at ≤ k → line_from at (m ∷ modules) (k, p) ≡ line_from (suc at) modules (k, p)
past_first at m modules k p l = ap (λ j. option_and_then (λ c. line_at c p) (slice_get (m ∷ modules) j)) (one_fewer k at l)

-- the reports of a module behind the first have their lines among those behind it
behind_first : (at k n : ℕ) (m : Module) (modules : List Module) (calls : List Written) → suc at ≤ k
    → map (line_from at (m ∷ modules)) (reports_in k n calls) ≡ map (line_from (suc at) modules) (reports_in k n calls)
behind_first at k n m modules [] l = refl
behind_first at k n m modules (w ∷ calls) l = by_test (is_number w.literal) (behind_first at k (after_call n) m modules calls l)
  where
    by_test : (b : Bool) → map (line_from at (m ∷ modules)) (reports_in k (after_call n) calls) ≡ map (line_from (suc at) modules) (reports_in k (after_call n) calls)
        → map (line_from at (m ∷ modules)) (if b then reports_in k (after_call n) calls else (k, argument_of n) ∷ reports_in k (after_call n) calls)
        ≡ map (line_from (suc at) modules) (if b then reports_in k (after_call n) calls else (k, argument_of n) ∷ reports_in k (after_call n) calls)
    by_test true e = e
    by_test false e = ap (λ x. x ∷ map (line_from at (m ∷ modules)) (reports_in k (after_call n) calls)) (past_first at m modules k (argument_of n) l)
        ∙ ap (λ xs. line_from (suc at) modules (k, argument_of n) ∷ xs) e

-- so have the reports of all modules behind the first
behind_all : (at k : ℕ) (m : Module) (modules : List Module) (rest : List (List Written)) → suc at ≤ k
    → map (line_from at (m ∷ modules)) (reports_from k rest) ≡ map (line_from (suc at) modules) (reports_from k rest)
behind_all at k m modules [] l = refl
behind_all at k m modules (calls ∷ rest) l =
    map-append (line_from at (m ∷ modules)) (reports_in k 0 calls) (reports_from (suc k) rest)
    ∙ ap (λ xs. xs ++ map (line_from at (m ∷ modules)) (reports_from (suc k) rest)) (behind_first at k 0 m modules calls l)
    ∙ ap (λ ys. map (line_from (suc at) modules) (reports_in k 0 calls) ++ ys) (behind_all at (suc k) m modules rest (omega (arith, l)))
    ∙ sym (map-append (line_from (suc at) modules) (reports_in k 0 calls) (reports_from (suc k) rest))

-- the lines that say what fails
abbrev pub failures_in : List Line → List Line
failures_in lines = filter says_failure lines

-- each line of a call says what fails
all_fail : (path : List ℕ) (places : List Pos) (lines : List Line) → failures_in (map (argument_line path) places ++ lines) ≡ map (argument_line path) places ++ failures_in lines
all_fail path [] lines = refl
all_fail path (at ∷ places) lines = ap (λ ls. argument_line path at ∷ ls) (all_fail path places lines)

-- the line of an offset
abbrev offset_line : List ℕ → List ℕ → ℕ → Line
offset_line path text offset = argument_line path (pos_at text offset)

lines_at_starts : (path text : List ℕ) (offsets : List ℕ) → map Some (map (argument_line path) (map (pos_at text) offsets)) ≡ map (option_map (offset_line path text)) (map Some offsets)
lines_at_starts path text [] = refl
lines_at_starts path text (offset ∷ offsets) = ap (λ ls. Some (offset_line path text offset) ∷ ls) (lines_at_starts path text offsets)

lines_of_places : (m : Module) (reports : List (ℕ × Place)) → map (option_map (offset_line m.path m.text)) (map (λ (r : ℕ × Place). expr_start (block_of 0 m.calls) r.1) reports) ≡ map (λ (r : ℕ × Place). line_at m r.1) reports
lines_of_places m [] = refl
lines_of_places m (r ∷ reports) = ap (λ ls. line_at m r.1 ∷ ls) (lines_of_places m reports)

-- the lines of a checked module, and those of the modules behind it
checked_first : (at : ℕ) (m : Module) (modules : List Module) (lines : List Line)
    → map Some (failures_in lines) ≡ map (line_from (suc at) modules) (reports_from (suc at) (map (λ c. c.calls) modules))
    → map Some (failures_in (map (argument_line m.path) (map (pos_at m.text) (offsets_of m.calls)) ++ lines)) ≡ map (line_from at (m ∷ modules)) (reports_from at (map (λ c. c.calls) (m ∷ modules)))
checked_first at m modules lines e =
    let here = reports_in at 0 m.calls in
    let later = reports_from (suc at) (map (λ c. c.calls) modules) in
    ap (map Some) (all_fail m.path (map (pos_at m.text) (offsets_of m.calls)) lines)
    ∙ map-append Some (map (argument_line m.path) (map (pos_at m.text) (offsets_of m.calls))) (failures_in lines)
    ∙ ap (λ xs. xs ++ map Some (failures_in lines)) (lines_at_starts m.path m.text (offsets_of m.calls)
    ∙ ap (map (option_map (offset_line m.path m.text))) (sym (starts_of_reports at 0 m.calls))
    ∙ lines_of_places m here ∙ sym (in_first at 0 m modules m.calls))
    ∙ ap (λ ys. map (line_from at (m ∷ modules)) here ++ ys) (e ∙ sym (behind_all at (suc at) m modules (map (λ c. c.calls) modules) (omega arith)))
    ∙ sym (map-append (line_from at (m ∷ modules)) here later)

-- one file by what becomes of it, and the modules behind it
by_fate : (at : ℕ) (path : List ℕ) (fate : Fate) (modules : List Module) (lines : List Line)
    → ((k : ℕ) → map Some (failures_in lines) ≡ map (line_from k modules) (reports_from k (map (λ c. c.calls) modules)))
    → map Some (failures_in (lines_for path fate ++ lines)) ≡ map (line_from at (modules_for path fate ++ modules)) (reports_from at (map (λ c. c.calls) (modules_for path fate ++ modules)))
by_fate at path (Refused place why) modules lines again = again at
by_fate at path (Checked text calls) modules lines again = checked_first at (record { path = path; text = text; calls = calls }) modules lines (again (suc at))

-- module by module
by_path : (files : List File) (at : ℕ) (paths : List (List ℕ))
    → map Some (failures_in (flat_map (λ path. lines_for path (fate_at files path)) paths))
    ≡ map (line_from at (flat_map (λ path. modules_for path (fate_at files path)) paths)) (reports_from at (map (λ c. c.calls) (flat_map (λ path. modules_for path (fate_at files path)) paths)))
by_path files at [] = refl
by_path files at (path ∷ paths) = by_fate at path (fate_at files path) _ _ (λ k. by_path files k paths)

no_shift : (modules : List Module) (reports : List (ℕ × Place)) → map (line_from 0 modules) reports ≡ map (line_of modules) reports
no_shift modules [] = refl
no_shift modules (r ∷ reports) = ap (λ k. option_and_then (λ m. line_at m r.1) (slice_get modules k) ∷ map (line_from 0 modules) reports) (all_left r.0)
    ∙ ap (λ ls. line_of modules r ∷ ls) (no_shift modules reports)

-- The lines that say what fails are those of the reports of the checked modules, one for each, in their order.
pub lines_are_reports : (files : List File) → map Some (failures_in (lines_by_module files)) ≡ map (line_of (checked_modules files)) (reports (checked_modules files))
lines_are_reports files = by_path files 0 (module_paths files) ∙ no_shift (checked_modules files) (reports (checked_modules files))
