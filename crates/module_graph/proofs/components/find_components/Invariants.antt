use Rattle.std.proofs.Common.{◌≡◌, ℕ, ◌<◌, [], Some}
use Rattle.std.specs.Prelude.{slice_get}
use Rattle.module_graph.specs.declared.search.Mark.TheVariants.{Closed}
use Rattle.module_graph.specs.Search.{state_of, IsSearch}
use Rattle.module_graph.proofs.components.find_components.Given as goal

abbrev pub invariant-loop-file : goal.invariant-loop-file
invariant-loop-file l = IsSearch l.nodes (state_of l.search) × (l.search.path.items ≡ []) × ((x : ℕ) → x < l.file → (n : ℕ) × (slice_get l.search.marks.items x ≡ Some (Closed n)))
