use Rattle.std.proofs.Common.{◌≡◌, ℕ, ◌<◌, length}
use Rattle.std.specs.Prelude.{slice_get, Some}
use Rattle.module_graph.specs.declared.standing.Standing.{Standing}
use Rattle.module_graph.specs.Standing.{IsStanding}
use Rattle.module_graph.proofs.standing.find_standings.Given as goal

abbrev pub invariant-loop-file : goal.invariant-loop-file
invariant-loop-file l = (length l.standings.items ≡ length l.nodes) × ((k x number : ℕ) (standing : Standing) → k < l.file-index → slice_get l.found.order.items k ≡ Some x → slice_get l.found.numbers.items x ≡ Some number → slice_get l.standings.items x ≡ Some standing → IsStanding l.nodes x number standing)
