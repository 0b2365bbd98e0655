use Rattle.std.proofs.Common.{◌≡◌, take}
use Rattle.std.specs.Prelude.{map}
use Rattle.context_types.proofs.lists.spread.Given as goal

-- as many were made as sets were gone through
abbrev pub invariant-loop-set : goal.invariant-loop-set
invariant-loop-set l = l.made.items ≡ map (λ set. l.context) (take l._set-index l.sets)
