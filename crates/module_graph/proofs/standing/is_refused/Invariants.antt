use Rattle.std.proofs.Common.{◌≡◌, ℕ, ◌<◌}
use Rattle.std.specs.Prelude.{slice_get, Some}
use Rattle.module_graph.specs.declared.node.Call.{Call}
use Rattle.module_graph.specs.Standing.{Refuses}
use Rattle.module_graph.proofs.standing.is_refused.Given as goal

abbrev pub invariant-loop-call : goal.invariant-loop-call
invariant-loop-call l = (k : ℕ) (call : Call) → k < l.call-index → slice_get l.call-items k ≡ Some call → Refuses l.found.numbers.items l.own call.to → ⊥
