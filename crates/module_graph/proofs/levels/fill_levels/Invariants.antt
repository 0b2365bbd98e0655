use Rattle.std.proofs.Common.{◌≡◌, ℕ, take}
use Rattle.std.specs.Prelude.{slice_get, Some}
use Rattle.std.specs.declared.alloc.Global.{Global}
use Rattle.std.specs.Prelude.{Vec}
use Rattle.module_graph.specs.Levels.{level_from}
use Rattle.module_graph.proofs.levels.fill_levels.Given as goal

abbrev pub invariant-loop-file : goal.invariant-loop-file
invariant-loop-file l = (level : ℕ) (modules : Vec ℕ Global) → slice_get l.levels level ≡ Some modules → modules.items ≡ level_from level 0 (take l.file l.fates)
