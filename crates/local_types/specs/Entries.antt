-- What maps have, as plain types.
use Rattle.std.specs.Prelude.{ℕ, ◌<◌, ◌==◌, length, if◌then◌else◌}
use Rattle.type_arena.specs.Arena.{store_of}
use Rattle.type_arena.specs.Meaning.{term_of}
use Rattle.type_arena.specs.Store.{Store}
use Rattle.type_arena.specs.Term.{Term}
use Rattle.type_arena.specs.declared.arena.Arena.{Arena}
use Rattle.type_arena.specs.declared.node.TypeRef.{TypeRef}
use Rattle.local_types.specs.Maps.{ref_of, by_number}
use Rattle.local_types.specs.declared.node.LocalMap.{LocalMap}
use Rattle.local_types.specs.declared.node.MapNode.{MapNode}
use Rattle.local_types.specs.declared.node.MapNode.TheVariants.{All, Split}
use Rattle.local_types.specs.declared.types.LocalTypes.{LocalTypes}

-- the arena of the types
abbrev pub arena_of : LocalTypes → Arena
arena_of types = types.arena

-- all arenas to which its types lead
abbrev pub arenas_of : LocalTypes → Store
arenas_of types = store_of (arena_of types)

-- what a type means
abbrev pub type_of : LocalTypes → TypeRef → Term
type_of types at = term_of (arenas_of types) at

-- the type that a map has for a local
unfoldable pub entry_of : LocalTypes → LocalMap → ℕ → Term
entry_of types map local = type_of types (ref_of types.nodes.items map.at local)

-- a map that stands there
unfoldable pub IsMap : LocalTypes → LocalMap → Type 0
IsMap types map = map.at < length types.nodes.items

-- entries, with another one for one local
abbrev pub with_entry : ℕ → Term → (ℕ → Term) → ℕ → Term
with_entry local type entries other = if other == local then type else entries other

-- the types that a node has for locals
abbrev pub entries_of_node : LocalTypes → MapNode → ℕ → Term
entries_of_node types (All at) = λ local. type_of types at
entries_of_node types (Split parts) = by_number (type_of types parts.here) (entry_of types parts.odd) (entry_of types parts.even)
