use Rattle.std.proofs.Common.{◌≡◌}
use Rattle.std.specs.Prelude.{map}
use Rattle.module_graph.proofs.Closes.{close_between}
use Rattle.module_graph.proofs.search.close_all.Given as goal

abbrev pub invariant-loop-i : goal.invariant-loop-i
invariant-loop-i l = l.marks ≡ map (close_between l.start l.i l.number) l.fn.marks
