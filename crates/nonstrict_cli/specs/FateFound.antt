-- A fate as the program holds it.
use Rattle.std.specs.Prelude.{ℕ, List, [], ◌∷◌, map}
use Rattle.diag_text.specs.declared.line.Line.{Line}
use Rattle.nonstrict_cli.specs.declared.fate.Fate.{Fate as Found}
use Rattle.nonstrict_cli.specs.declared.fate.Fate.TheVariants as found
use Rattle.nonstrict_cli.specs.Fate.{Fate}
use Rattle.nonstrict_cli.specs.Fate as fate
use Rattle.nonstrict_cli.specs.Lines.{argument_line, failing_places, refusal_line}

-- what the program holds of a fate: of a checked text the places of the literals that fail
abbrev pub found_of : Fate → Found
found_of (fate.Refused at why) = found.Refused at why
found_of (fate.Checked text calls) = found.Checked (failing_places text calls)

-- the lines of the file at a path by what the program holds of its fate
abbrev pub lines_found : List ℕ → Found → List Line
lines_found path (found.Refused at why) = refusal_line path at why ∷ []
lines_found path (found.Checked places) = map (argument_line path) places
