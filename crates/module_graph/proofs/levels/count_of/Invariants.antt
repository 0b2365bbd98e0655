use Rattle.std.proofs.Common.{take}
use Rattle.module_graph.specs.Levels.{IsCount}
use Rattle.module_graph.proofs.levels.count_of.Given as goal

abbrev pub invariant-loop-fate : goal.invariant-loop-fate
invariant-loop-fate l = IsCount (take l.fate-index l.fates) l.count
