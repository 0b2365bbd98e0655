use Rattle.std.proofs.Common.{◌≡◌, ◌++◌, take}
use Rattle.type_lower.proofs.PutFacts.{all_with}
use Rattle.type_lower.proofs.visible.put_generics.Given as goal

-- the names so far
abbrev pub invariant-loop-generic : goal.invariant-loop-generic
invariant-loop-generic l = l.aliases ≡ l.initial.aliases ++ all_with l.at (take l.generic-index l.generics)
