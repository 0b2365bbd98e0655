use Rattle.std.proofs.Common.{◌≡◌, drop}
use Rattle.std.specs.Prelude.{max}
use Rattle.type_arena.specs.Term.{functions_in}
use Rattle.subtype_check.specs.Apart.{longest, paths_of}
use Rattle.subtype_check.proofs.samples.longest_path.Given as goal

abbrev pub invariant-loop-name : goal.invariant-loop-name
invariant-loop-name l = longest (paths_of (functions_in l.names)) ≡ max l.most (longest (paths_of (functions_in (drop l.name-index l.names))))
