use Rattle.std.proofs.Common.{◌≡◌, ◌++◌, map, take}
use Rattle.nonstrict_cli.specs.Lines.{argument_line}
use Rattle.nonstrict_cli.proofs.lines.push_arguments.Given as goal

-- the lines of the places so far are added
abbrev pub invariant-loop-at : goal.invariant-loop-at
invariant-loop-at l = l.lines.items ≡ l.initial.lines.items ++ map (argument_line l.path) (take l.at-index l.places)
