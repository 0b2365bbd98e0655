use Rattle.std.proofs.Common.{◌≡◌, take}
use Rattle.nonstrict_cli.proofs.paths.as_bytes.Given as goal

-- the paths so far
abbrev pub invariant-loop-path : goal.invariant-loop-path
invariant-loop-path l = l.bytes.items ≡ take l.path-index l.paths
