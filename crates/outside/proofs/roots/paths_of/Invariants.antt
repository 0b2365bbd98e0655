use Rattle.std.proofs.Common.{◌≡◌, map, take, string_bytes}
use Rattle.outside.specs.Contents.{paths_of}
use Rattle.outside.proofs.roots.paths_of.Given as goal

-- the paths so far are those of the files so far
abbrev pub invariant-loop-file : goal.invariant-loop-file
invariant-loop-file l = map string_bytes l.paths.items ≡ paths_of (take l.file-index l.files)
