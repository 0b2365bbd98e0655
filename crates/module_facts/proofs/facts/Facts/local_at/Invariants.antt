use Rattle.std.proofs.Common.{◌-◌}
use Rattle.module_facts.proofs.Halving.{Around}
use Rattle.module_facts.proofs.facts.Facts.local_at.Given as goal

-- the locals before the first place begin before the offset, and those from the end on behind it
abbrev pub invariant-loop-first : goal.invariant-loop-first
invariant-loop-first l = Around l.locals l.first l.end l.offset

abbrev pub decreases-loop-first : goal.decreases-loop-first
decreases-loop-first l = l.end - l.first
