use Rattle.std.proofs.Common.{◌≡◌, flat_map, take}
use Rattle.diag_text.specs.Line.{text_of}
use Rattle.nonstrict_cli.proofs.answer.text_of.Given as goal

-- the text of the lines so far
abbrev pub invariant-loop-line : goal.invariant-loop-line
invariant-loop-line l = l.text.items ≡ flat_map text_of (take l.line-index l.lines)
