use Rattle.std.proofs.Common.{take}
use Rattle.context_types.specs.Lists.{each_term}
use Rattle.context_types.specs.Types.{set_in}
use Rattle.context_types.proofs.ListFacts.{Changed}
use Rattle.context_types.proofs.types.ContextTypes.each.Given as goal

-- those that were gone through have changed
abbrev pub invariant-loop-set : goal.invariant-loop-set
invariant-loop-set l = Changed l.fn.self l.self (each_term (set_in l.fn.self) l.how) (take l.set-index l.sets) l.made.items
