use Rattle.std.proofs.Common.{◌≡◌, ◌≤◌, map, take}
use Rattle.outside.specs.Written.{Appends}
use Rattle.nonstrict_cli.specs.declared.limits.TheConstants.{MAX_TOTAL}
use Rattle.nonstrict_cli.specs.Asked.{reading_of}
use Rattle.nonstrict_cli.proofs.Gathering.{Gathered}
use Rattle.nonstrict_cli.proofs.folder.folder_lines.Given as goal

-- the files so far are read, each by one question, and nothing failed
abbrev pub invariant-loop-path : goal.invariant-loop-path
invariant-loop-path g l =
    (l.total ≤ MAX_TOTAL) ×
    Gathered (g.T.Tree.contents l.initial.tree) l.folder l.path-items l.path-index l.total l.lines.items ×
    (g.T.Tree.faults l.tree ≡ g.T.Tree.faults l.initial.tree) ×
    (g.T.Tree.contents l.tree ≡ g.T.Tree.contents l.initial.tree) ×
    Appends (g.T.Tree.asked l.initial.tree) (g.T.Tree.asked l.tree) (map (reading_of l.folder) (take l.path-index l.path-items))
