-- To which homes an arena leads, and what is made of it.
use Rattle.std.specs.Prelude.{◌≡◌, ◌≢◌, ℕ, Bool, List, Some, All, IsTrue}
use Rattle.type_arena.specs.Arena.{home_of, store_of}
use Rattle.type_arena.specs.Homes.{literal_homes}
use Rattle.type_arena.specs.Store.{node_at, refs_of}
use Rattle.type_arena.specs.declared.arena.Arena.{Arena}
use Rattle.type_arena.specs.declared.node.Node.{Node}
use Rattle.type_arena.specs.declared.node.TypeRef.{TypeRef}
use Rattle.local_types.specs.Growing.{HaveHomes, StaysWithin}

-- the arenas below an arena stay within the homes that pass a test, and its own home passes
pub record StartsWithin (test : ℕ → Bool) (arena : Arena) : Type 0 where
  pub own : IsTrue (test (home_of arena))
  pub refs : (at : TypeRef) (node : Node) → node_at (store_of arena) at ≡ Some node → at.home ≢ home_of arena → IsTrue (test at.home) → HaveHomes test (refs_of node)
  pub literals : (at : TypeRef) (node : Node) → node_at (store_of arena) at ≡ Some node → at.home ≢ home_of arena → IsTrue (test at.home) → All (λ home. IsTrue (test home)) (literal_homes node.functions)

-- an arena leads to no home but its own, and those to which the arenas below and what came from elsewhere lead
abbrev pub IsConfined : Arena → List TypeRef → Type 0
IsConfined arena outside = (test : ℕ → Bool) → StartsWithin test arena → HaveHomes test outside → StaysWithin test arena

-- a type that was made of what is there: it leads to no home to which neither that nor what came from elsewhere leads
abbrev pub IsMade : Arena → List TypeRef → TypeRef → Type 0
IsMade arena outside at = (test : ℕ → Bool) → StaysWithin test arena → HaveHomes test outside → IsTrue (test at.home)
