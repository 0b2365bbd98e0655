-- The lines of a folder that don't say what fails say why a file isn't checked.
use Rattle.std.proofs.Common.{◌≡◌, ℕ, Bool, true, false, ◌⊎◌, inl, inr, List, [], ◌∷◌, flat_map, ap, sym, arith, Contains}
use Rattle.diag_text.specs.declared.line.Line.{Line}
use Rattle.outside.specs.Contents.{File}
use Rattle.luau_tree.specs.declared.position.Pos.{Pos}
use Rattle.nonstrict_cli.specs.Fate.{Fate, Refused, Checked, fate_at}
use Rattle.nonstrict_cli.specs.Lines.{argument_line, failing_places, lines_for, refusal_line}
use Rattle.nonstrict_cli.specs.Reports.{SaysRefusal, says_failure}
use Rattle.nonstrict_cli.proofs.Members.{first_or_later, in_either, none_there, value_of_one}

clash : (line : Line) (b : Bool) → b ≡ true → b ≡ false → SaysRefusal line
clash line b t f = cc

-- of a file
of_file : (path : List ℕ) (fate : Fate) (line : Line) → Contains (lines_for path fate) line → says_failure line ≡ false → SaysRefusal line
of_file path (Refused at why) line there quiet = by_one (first_or_later (refusal_line path at why) [] line there)
  where
    by_one : (refusal_line path at why ≡ line) ⊎ Contains [] line → SaysRefusal line
    by_one (inl e) = (why, ap (λ (l : Line). l.message) (sym e))
    by_one (inr k) = absurd (none_there line k)
of_file path (Checked text calls) line there quiet =
    let found = value_of_one (argument_line path) (failing_places text calls) line there in
    clash line (says_failure line) (ap says_failure (sym found.2)) quiet

-- of some files
pub of_files : (files : List File) (paths : List (List ℕ)) (line : Line) → Contains (flat_map (λ path. lines_for path (fate_at files path)) paths) line → says_failure line ≡ false → SaysRefusal line
of_files files [] line there quiet = absurd (none_there line there)
of_files files (path ∷ paths) line there quiet =
    by_part (in_either (lines_for path (fate_at files path)) (flat_map (λ p. lines_for p (fate_at files p)) paths) line there) (λ k. of_files files paths line k quiet)
  where
    by_part : Contains (lines_for path (fate_at files path)) line ⊎ Contains (flat_map (λ p. lines_for p (fate_at files p)) paths) line
        → (Contains (flat_map (λ p. lines_for p (fate_at files p)) paths) line → SaysRefusal line) → SaysRefusal line
    by_part (inl k) again = of_file path (fate_at files path) line k quiet
    by_part (inr k) again = again k
