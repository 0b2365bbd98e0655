use Rattle.std.proofs.Common.{◌≡◌}
use Rattle.luau_tree.specs.Position.{pos_at}
use Rattle.luau_tree.proofs.position.place_from.Given as goal

-- the place so far is that of the offset
abbrev pub invariant-loop-i : goal.invariant-loop-i
invariant-loop-i l = l.pos ≡ pos_at l.text l.i
