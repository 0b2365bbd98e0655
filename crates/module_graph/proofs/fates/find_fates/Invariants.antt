use Rattle.std.proofs.Common.{◌≡◌, ℕ, length}
use Rattle.std.specs.Prelude.{slice_get, Some}
use Rattle.module_graph.specs.declared.needs.Fate.{Fate}
use Rattle.module_graph.specs.Fates.{IsFate}
use Rattle.module_graph.proofs.fates.find_fates.Given as goal

abbrev pub invariant-loop-file : goal.invariant-loop-file
invariant-loop-file l = (length l.fates.items ≡ l.file) × ((x : ℕ) (fate : Fate) → slice_get l.fates.items x ≡ Some fate → IsFate l.nodes x fate)
