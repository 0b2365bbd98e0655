use Rattle.std.proofs.Common.{◌≡◌}
use Rattle.module_graph.specs.Search.{state_of, IsSearch, Settles, steps_left}
use Rattle.module_graph.proofs.search.Search.run.Given as goal

abbrev pub invariant-loop-at : goal.invariant-loop-at
invariant-loop-at l = IsSearch l.nodes (state_of l.self) × Settles (state_of l.fn.self) (state_of l.self)

abbrev pub decreases-loop-at : goal.decreases-loop-at
decreases-loop-at l = steps_left l.nodes (state_of l.self)
