use Rattle.std.proofs.Common.{◌≡◌, map, take}
use Rattle.type_infer.specs.Handing.{one_handed}
use Rattle.type_infer.proofs.handing.handed.Given as goal

-- those so far
abbrev pub invariant-loop-met : goal.invariant-loop-met
invariant-loop-met l = l.list.items ≡ map one_handed (take l.met-index l.seen)
