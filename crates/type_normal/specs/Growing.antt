-- Which homes are reached from what a call has made.
use Rattle.std.specs.Prelude.{ℕ, List, []}
use Rattle.type_arena.specs.Arena.{home_of, store_of}
use Rattle.type_arena.specs.Homes.{ReachesHome, Given, MayUse}
use Rattle.type_arena.specs.declared.arena.Arena.{Arena}
use Rattle.type_arena.specs.declared.node.TypeRef.{TypeRef}

-- some references that are given
abbrev pub given_refs : List TypeRef → Given
given_refs refs = record { refs = refs; literals = [] }

-- each home that is reached from a reference, which a call has made of what it was given, may be used
abbrev pub IsClean : Arena → Arena → Given → TypeRef → Type 0
IsClean old new given at = (home : ℕ) → ReachesHome (store_of new) at home → MayUse (store_of old) (home_of old) given home
