use Rattle.std.proofs.Common.{◌≡◌, filter, map, string_bytes}
use Rattle.nonstrict_cli.specs.Folder.{is_module_path}
use Rattle.nonstrict_cli.proofs.paths.modules_among.Given as goal

-- the modules among the paths so far are kept
abbrev pub invariant-loop-path : goal.invariant-loop-path
invariant-loop-path l = l.kept.items ≡ filter is_module_path (map string_bytes l.yielded)
