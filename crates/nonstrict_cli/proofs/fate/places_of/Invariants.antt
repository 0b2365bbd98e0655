use Rattle.std.proofs.Common.{◌≡◌, map, take}
use Rattle.luau_tree.specs.Position.{pos_at}
use Rattle.nonstrict_cli.proofs.fate.places_of.Given as goal

-- the places of the offsets so far
abbrev pub invariant-loop-offset : goal.invariant-loop-offset
invariant-loop-offset l = (l.places.items ≡ map (pos_at l.text) (take l.offset-index l.offsets)) × (l.cursor ≡ l.text)
