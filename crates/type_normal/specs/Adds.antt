-- What calls on an arena do to it: they add nodes, and nothing else.
use Rattle.std.specs.Prelude.{◌≡◌, List, IsTrue}
use Rattle.type_arena.specs.Arena.{home_of, below_of, store_of}
use Rattle.type_arena.specs.Homes.{Given, UsesHomes}
use Rattle.type_arena.specs.Meaning.{term_of}
use Rattle.type_arena.specs.Store.{Keeps, has}
use Rattle.type_arena.specs.declared.arena.Arena.{Arena}
use Rattle.type_arena.specs.declared.node.TypeRef.{TypeRef}

-- the arena stands over the same shelf and has the same home, each reference that was there keeps its node and its meaning,
-- and the answers and the new nodes have no homes but those that the call may use
pub record Adds (old new : Arena) (given : Given) (answers : List TypeRef) : Type 0 where
  pub below : below_of new ≡ below_of old
  pub home : home_of new ≡ home_of old
  pub keeps : Keeps (store_of old) (store_of new)
  pub kept : (at : TypeRef) → IsTrue (has (store_of old) at) → term_of (store_of new) at ≡ term_of (store_of old) at
  pub homes : UsesHomes (home_of old) (store_of old) (store_of new) given answers
