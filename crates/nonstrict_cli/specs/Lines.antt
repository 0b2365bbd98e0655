-- The lines of a folder.
use Rattle.std.specs.Prelude.{ℕ, ◌++◌, List, [], ◌∷◌, flat_map, map, codes}
use Rattle.luau_tree.specs.declared.position.Pos.{Pos}
use Rattle.luau_tree.specs.Position.{pos_at}
use Rattle.diag_text.specs.declared.line.Line.{Line}
use Rattle.diag_text.specs.declared.line.LineKind.TheVariants as kinds
use Rattle.diag_text.specs.Line.{sorted_lines}
use Rattle.outside.specs.Contents.{File}
use Rattle.rules_certain.specs.Calls.{Written}
use Rattle.nonstrict_cli.specs.declared.reason.Reason.{Reason}
use Rattle.nonstrict_cli.specs.Fate.{Fate, Refused, Checked, fate_at}
use Rattle.nonstrict_cli.specs.Folder.{module_paths}
use Rattle.nonstrict_cli.specs.Form.{offsets_of}
use Rattle.nonstrict_cli.specs.Reason.{reason_text}

-- the line of a file that isn't checked, with the place and the reason
abbrev pub refusal_line : List ℕ → Pos → Reason → Line
refusal_line path at why =
    record {
      path = path;
      at = at;
      kind = kinds.Refused;
      message = codes "refused: " ++ reason_text why;
    }

-- the line of a call that always fails, whose literal stands at this place
abbrev pub argument_line : List ℕ → Pos → Line
argument_line path at =
    record {
      path = path;
      at = at;
      kind = kinds.Argument;
      message = codes "argument 1 of math.abs always fails";
    }

-- where the literals stand that fail in a text that is these calls
abbrev pub failing_places : List ℕ → List Written → List Pos
failing_places text calls = map (pos_at text) (offsets_of calls)

-- the lines of the file at a path by what becomes of it
abbrev pub lines_for : List ℕ → Fate → List Line
lines_for path (Refused at why) = refusal_line path at why ∷ []
lines_for path (Checked text calls) = map (argument_line path) (failing_places text calls)

-- the lines of the modules of a folder, one module behind the other
abbrev pub lines_by_module : List File → List Line
lines_by_module files = flat_map (λ path. lines_for path (fate_at files path)) (module_paths files)

-- the lines of a folder: those of all its modules, sorted and each once
abbrev pub lines_of : List File → List Line
lines_of files = sorted_lines (lines_by_module files)
