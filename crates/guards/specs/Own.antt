-- References from which an arena's own home is reached, and no other.
use Rattle.std.specs.Prelude.{◌≡◌, ℕ, IsTrue}
use Rattle.type_arena.specs.Arena.{home_of, store_of}
use Rattle.type_arena.specs.Homes.{ReachesHome}
use Rattle.type_arena.specs.Meaning.{term_of}
use Rattle.type_arena.specs.Store.{has}
use Rattle.type_arena.specs.declared.arena.Arena.{Arena}
use Rattle.type_arena.specs.declared.node.TypeRef.{TypeRef}
use Rattle.type_normal.specs.Kinds.{unknown}

-- a reference is there, and only the arena's own home is reached from it
pub record IsOwn (arena : Arena) (at : TypeRef) : Type 0 where
  pub there : IsTrue (has (store_of arena) at)
  pub home : (home : ℕ) → ReachesHome (store_of arena) at home → home ≡ home_of arena

-- such a reference of the type of all values
pub record IsUnknown (arena : Arena) (at : TypeRef) : Type 0 where
  pub own : IsOwn arena at
  pub means : term_of (store_of arena) at ≡ unknown
