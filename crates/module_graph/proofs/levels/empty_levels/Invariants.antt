use Rattle.std.proofs.Common.{◌≡◌, ℕ, [], length}
use Rattle.std.specs.Prelude.{slice_get, Some, Vec}
use Rattle.std.specs.declared.alloc.Global.{Global}
use Rattle.module_graph.proofs.levels.empty_levels.Given as goal

abbrev pub invariant-loop : goal.invariant-loop
invariant-loop l = (length l.levels.items ≡ l.counter) × ((level : ℕ) (modules : Vec ℕ Global) → slice_get l.levels.items level ≡ Some modules → modules.items ≡ [])
