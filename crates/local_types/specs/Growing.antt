-- What calls do to maps and to their arena: they add some, and nothing else.
use Rattle.std.specs.Prelude.{◌≡◌, ℕ, Bool, List, Some, slice_get, All, IsTrue}
use Rattle.type_arena.specs.Arena.{home_of, below_of, store_of}
use Rattle.type_arena.specs.Homes.{literal_homes}
use Rattle.type_arena.specs.Store.{Keeps, node_at, has, refs_of}
use Rattle.type_arena.specs.declared.arena.Arena.{Arena}
use Rattle.type_arena.specs.declared.node.Node.{Node}
use Rattle.type_arena.specs.declared.node.TypeRef.{TypeRef}
use Rattle.local_types.specs.Entries.{arena_of, arenas_of, type_of}
use Rattle.local_types.specs.Maps.{KeepsMaps, types_in}
use Rattle.local_types.specs.declared.node.MapNode.{MapNode}
use Rattle.local_types.specs.declared.types.LocalTypes.{LocalTypes}

-- whether references have homes that pass a test
abbrev pub HaveHomes : (ℕ → Bool) → List TypeRef → Type 0
HaveHomes test refs = All (λ at. IsTrue (test at.home)) refs

-- an arena stays within the homes that pass a test: its own does, and no node at such a home leads to another
pub record StaysWithin (test : ℕ → Bool) (arena : Arena) : Type 0 where
  pub own : IsTrue (test (home_of arena))
  pub refs : (at : TypeRef) (node : Node) → node_at (store_of arena) at ≡ Some node → IsTrue (test at.home) → HaveHomes test (refs_of node)
  pub literals : (at : TypeRef) (node : Node) → node_at (store_of arena) at ≡ Some node → IsTrue (test at.home) → All (λ home. IsTrue (test home)) (literal_homes node.functions)

-- and so do all maps
pub record AreWithin (test : ℕ → Bool) (types : LocalTypes) : Type 0 where
  pub arena : StaysWithin test (arena_of types)
  pub maps : (place : ℕ) (node : MapNode) → slice_get types.nodes.items place ≡ Some node → HaveHomes test (types_in node)

-- a type that was made of those that are given, and of what was there: it leads to no home to which these don't lead
abbrev pub IsMadeOf : LocalTypes → List TypeRef → TypeRef → Type 0
IsMadeOf types given at = (test : ℕ → Bool) → AreWithin test types → HaveHomes test given → IsTrue (test at.home)

-- the arena stands over the same shelf and has the same home, each type that was there keeps its node and its meaning, each map
-- stays, and nothing leads to a home to which neither what was there nor what is given does
pub record Grows (old new : LocalTypes) (given : List TypeRef) : Type 0 where
  pub below : below_of (arena_of new) ≡ below_of (arena_of old)
  pub home : home_of (arena_of new) ≡ home_of (arena_of old)
  pub keeps : Keeps (arenas_of old) (arenas_of new)
  pub kept : (at : TypeRef) → IsTrue (has (arenas_of old) at) → type_of new at ≡ type_of old at
  pub maps : KeepsMaps old.nodes.items new.nodes.items
  pub homes : (test : ℕ → Bool) → AreWithin test old → HaveHomes test given → AreWithin test new
