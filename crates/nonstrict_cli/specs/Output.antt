-- What a run writes, and how it ends, where nothing fails.
use Rattle.std.specs.Prelude.{◌==◌, ℕ, Bool, true, false, List, [], Option, None, Some, length, flat_map, if◌then◌else◌}
use Rattle.std.specs.List.{list_any}
use Rattle.diag_text.specs.declared.line.Line.{Line}
use Rattle.diag_text.specs.declared.line.LineKind.{LineKind}
use Rattle.diag_text.specs.declared.line.LineKind.TheVariants as kinds
use Rattle.diag_text.specs.Line.{text_of}
use Rattle.outside.specs.Contents.{Contents, File}
use Rattle.nonstrict_cli.specs.declared.status.Limit.{Limit}
use Rattle.nonstrict_cli.specs.declared.status.Status.{Status}
use Rattle.nonstrict_cli.specs.declared.status.Status.TheVariants.{Clean, Reports, Refused, Usage, TooLarge}
use Rattle.nonstrict_cli.specs.Command.{command}
use Rattle.nonstrict_cli.specs.Folder.{limit_of}
use Rattle.nonstrict_cli.specs.Lines.{lines_of}

-- the bytes and the status of a run
pub record Output : Type 0 where
  pub bytes : List ℕ
  pub status : Status

-- whether a kind of lines says that a file isn't checked
abbrev pub is_refusal : LineKind → Bool
is_refusal kinds.Refused = true
is_refusal kinds.Skipped = true
is_refusal _ = false

-- the status of some lines: Refused where a file isn't checked, else Clean where there is no line,
-- else Reports
abbrev pub status_of : List Line → Status
status_of lines =
    if list_any (λ l. is_refusal l.kind) lines then Refused
    else if length lines == 0 then Clean
    else Reports

-- nothing is written
abbrev pub silent : Status → Output
silent status = record { bytes = []; status = status }

-- the text of some lines, and their status
abbrev pub written : List Line → Output
written lines = record { bytes = flat_map text_of lines; status = status_of lines }

-- the output for a folder by the limit that it passes, at which nothing is written; without one its
-- lines
abbrev pub output_within : Option Limit → List File → Output
output_within None files = written (lines_of files)
output_within (Some limit) files = silent (TooLarge limit)

-- the output by the folder that the words name, if they are a command
abbrev pub output_for : Option (List ℕ) → Contents → Output
output_for None contents = silent Usage
output_for (Some folder) contents = output_within (limit_of (contents folder)) (contents folder)

-- the output for some words, over what the tree holds
abbrev pub output : List (List ℕ) → Contents → Output
output words contents = output_for (command words) contents
