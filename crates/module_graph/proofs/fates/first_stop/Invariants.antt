use Rattle.std.proofs.Common.{◌≡◌, ℕ, ◌<◌}
use Rattle.std.specs.Prelude.{slice_get, Some}
use Rattle.module_graph.specs.declared.node.Call.{Call}
use Rattle.module_graph.specs.declared.standing.Standing.TheVariants.{Level}
use Rattle.module_graph.proofs.fates.first_stop.Given as goal

abbrev pub invariant-loop-call : goal.invariant-loop-call
invariant-loop-call l = (k to : ℕ) (call : Call) → k < l.call-index → slice_get l.calls k ≡ Some call → call.to ≡ Some to → (level : ℕ) × (slice_get l.standings to ≡ Some (Level level))
