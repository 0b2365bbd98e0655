use Rattle.std.proofs.Common.{◌≡◌, ℕ, ◌<◌, ◌++◌, List, vec_len}
use Rattle.module_graph.specs.Search.{Has}
use Rattle.module_graph.proofs.search.merge.Given as goal

abbrev pub invariant-loop-start : goal.invariant-loop-start
invariant-loop-start l = (dropped : List ℕ) × (l.fn.starts.items ≡ l.starts.items ++ dropped) × ((p : ℕ) → Has dropped p → l.at < p)

abbrev pub decreases-loop-start : goal.decreases-loop-start
decreases-loop-start l = vec_len l.starts
