-- The parts of maps, side by side.
use Rattle.std.specs.Prelude.{ℕ, Option, Some, None, [], IsTrue}
use Rattle.type_arena.specs.Store.{has}
use Rattle.type_arena.specs.Term.{Term}
use Rattle.type_arena.specs.declared.node.TypeRef.{TypeRef}
use Rattle.local_types.specs.Entries.{arenas_of, type_of, entry_of, IsMap}
use Rattle.local_types.specs.Growing.{IsMadeOf}
use Rattle.local_types.specs.Maps.{by_number}
use Rattle.local_types.specs.declared.node.LocalMap.{LocalMap}
use Rattle.local_types.specs.declared.node.MapNode.{MapNode}
use Rattle.local_types.specs.declared.node.MapNode.TheVariants.{All, Split}
use Rattle.local_types.specs.declared.node.Parts.{Parts}
use Rattle.local_types.specs.declared.types.LocalTypes.{LocalTypes}

-- the types of two nodes, where each has one for all numbers
abbrev pub both_all : MapNode → MapNode → Option (TypeRef × TypeRef)
both_all (All at) (All other) = Some (at, other)
both_all (All at) (Split parts) = None
both_all (Split parts) node = None

-- the parts of a map with this node; one with one type for all numbers has itself on both sides
abbrev pub parts_of : LocalMap → MapNode → Parts
parts_of map (All at) = record { here = at; odd = map; even = map }
parts_of map (Split parts) = parts

-- the types that parts have for locals
abbrev pub entries_of_parts : LocalTypes → Parts → ℕ → Term
entries_of_parts types parts = by_number (type_of types parts.here) (entry_of types parts.odd) (entry_of types parts.even)

-- parts that stand there
pub record ArePartsThere (types : LocalTypes) (parts : Parts) : Type 0 where
  pub here : IsTrue (has (arenas_of types) parts.here)
  pub made : IsMadeOf types [] parts.here
  pub odd : IsMap types parts.odd
  pub even : IsMap types parts.even
