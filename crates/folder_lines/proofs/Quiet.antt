-- Lines that don't say what fails: those of files that are refused or skipped.
use Rattle.std.proofs.Common.{◌≡◌, false, ◌⊎◌, inl, inr, List, [], ◌∷◌, flat_map, ap, sym, Contains}
use Rattle.diag_text.specs.declared.line.Line.{Line}
use Rattle.module_graph.specs.declared.needs.Fate.{Fate}
use Rattle.module_graph.specs.declared.needs.Fate.TheVariants as fate
use Rattle.source_files.specs.declared.file.SourceFile.{SourceFile}
use Rattle.source_files.specs.Reading.{Reading, Refused, Read}
use Rattle.folder_lines.specs.Lines.{graph_reason, lines_planned, lines_read, path_at, place_in, refusal_line, skip_line}
use Rattle.folder_lines.specs.Reported.{SaysRefusal, says_failure}
use Rattle.folder_lines.proofs.Members.{first_or_later, in_either, none_there}

-- a line doesn't say what fails, and says why a file isn't checked
abbrev pub IsQuiet : Line → Type 0
IsQuiet line = SaysRefusal line × (says_failure line ≡ false)

-- one of a list of one
only : (a line : Line) → Contains (a ∷ []) line → a ≡ line
only a line c = by_place (first_or_later a [] line c)
  where
    by_place : (a ≡ line) ⊎ Contains [] line → a ≡ line
    by_place (inl e) = e
    by_place (inr k) = absurd (none_there line k)

pub of_reading : (file : SourceFile) (reading : Reading) (line : Line) → Contains (lines_read file reading) line → IsQuiet line
of_reading file (Refused at why) line c =
    let e = only (refusal_line file.path at why) line c in
    (inl (why, ap (λ (l : Line). l.message) (sym e)), ap says_failure (sym e))
of_reading file (Read text block) line c = absurd (none_there line c)

pub of_fate : (files : List SourceFile) (file : SourceFile) (fate : Fate) (line : Line) → Contains (lines_planned files file fate) line → IsQuiet line
of_fate files file (fate.Refused why at) line c =
    let e = only (refusal_line file.path (place_in file at) (graph_reason why)) line c in
    (inl (graph_reason why, ap (λ (l : Line). l.message) (sym e)), ap says_failure (sym e))
of_fate files file (fate.Skipped at needs) line c =
    let e = only (skip_line file.path (place_in file at) (path_at files needs)) line c in
    (inr (path_at files needs, ap (λ (l : Line). l.message) (sym e)), ap says_failure (sym e))
of_fate files file (fate.Checked level needs) line c = absurd (none_there line c)
of_fate files file fate.Already line c = absurd (none_there line c)

-- what holds of the lines of each holds of all
pub of_all : {X : Type 0} (f : X → List Line) → ((x : X) (line : Line) → Contains (f x) line → IsQuiet line) → (xs : List X) (line : Line) → Contains (flat_map f xs) line → IsQuiet line
of_all f each [] line c = absurd (none_there line c)
of_all f each (x ∷ xs) line c = by_part (in_either (f x) (flat_map f xs) line c) (λ k. of_all f each xs line k)
  where
    by_part : Contains (f x) line ⊎ Contains (flat_map f xs) line → (Contains (flat_map f xs) line → IsQuiet line) → IsQuiet line
    by_part (inl k) again = each x line k
    by_part (inr k) again = again k
