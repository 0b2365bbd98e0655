-- What stands in the arena of a state, and which homes it leads to.
use Rattle.std.specs.BTreeMap.{BTreeMap, get}
use Rattle.std.specs.Ordering.{nat_cmp}
use Rattle.std.specs.Prelude.{◌≡◌, ◌≢◌, ℕ, Bool, List, [], ◌∷◌, Some, All, IsTrue}
use Rattle.type_arena.specs.Arena.{home_of, store_of}
use Rattle.type_arena.specs.Homes.{literal_homes}
use Rattle.type_arena.specs.Store.{Keeps, node_at, has, refs_of}
use Rattle.type_arena.specs.declared.arena.Arena.{Arena}
use Rattle.type_arena.specs.declared.node.Node.{Node}
use Rattle.type_arena.specs.declared.node.TypeRef.{TypeRef}
use Rattle.type_decl.specs.Tables.{alone, refs_in}
use Rattle.type_decl.specs.declared.table.SigTable.{SigTable}
use Rattle.local_types.specs.Entries.{arena_of, arenas_of, IsMap}
use Rattle.local_types.specs.Growing.{HaveHomes, AreWithin, IsMadeOf}
use Rattle.local_types.specs.declared.types.LocalTypes.{LocalTypes}
use Rattle.local_types.specs.declared.node.Point.{Point}
use Rattle.rule_state.specs.declared.point.Seen.{Seen}
use Rattle.rule_state.specs.declared.point.Seen.TheVariants.{Expr, Body}

-- a type stands there, and leads to no home to which neither what is there nor what came from elsewhere leads
pub record Stands (types : LocalTypes) (outside : List TypeRef) (at : TypeRef) : Type 0 where
  pub there : IsTrue (has (arenas_of types) at)
  pub made : IsMadeOf types outside at

-- the types in what was seen
abbrev pub types_in : Seen → List TypeRef
types_in (Expr id at live) = at ∷ []
types_in (Body id live) = []

abbrev pub StandsSeen : LocalTypes → List TypeRef → Seen → Type 0
StandsSeen types outside seen = All (Stands types outside) (types_in seen)

-- the arenas below an arena stay within the homes that pass a test, and its own home passes
pub record StartsWithin (test : ℕ → Bool) (arena : Arena) : Type 0 where
  pub own : IsTrue (test (home_of arena))
  pub refs : (at : TypeRef) (node : Node) → node_at (store_of arena) at ≡ Some node → at.home ≢ home_of arena → IsTrue (test at.home) → HaveHomes test (refs_of node)
  pub literals : (at : TypeRef) (node : Node) → node_at (store_of arena) at ≡ Some node → at.home ≢ home_of arena → IsTrue (test at.home) → All (λ home. IsTrue (test home)) (literal_homes node.functions)

-- types lead to no home but their own, and those to which the arenas below and what came from elsewhere lead
abbrev pub IsConfined : LocalTypes → List TypeRef → Type 0
IsConfined types outside = (test : ℕ → Bool) → StartsWithin test (arena_of types) → HaveHomes test outside → AreWithin test types

-- the arena of the declared builtins is among those of the types, and the builtins' types stand there
pub record KnowsTable (types : LocalTypes) (outside : List TypeRef) (table : SigTable) : Type 0 where
  pub keeps : Keeps (alone table.arena) (arenas_of types)
  pub stand : All (λ sig. All (Stands types outside) (refs_in sig)) table.sigs

-- the types of what static requires give stand there
abbrev pub KnowsImports : LocalTypes → (outside : List TypeRef) → (imports : BTreeMap ℕ TypeRef) → Type 0
KnowsImports types outside imports = (id : ℕ) (at : TypeRef) → get nat_cmp imports id ≡ Some at → Stands types outside at

-- what came from elsewhere is known
pub record Knows (types : LocalTypes) (outside : List TypeRef) (table : SigTable) (imports : BTreeMap ℕ TypeRef) : Type 0 where
  pub declared : KnowsTable types outside table
  pub imported : KnowsImports types outside imports

-- all that is at hand stands there
pub record IsSound (types : LocalTypes) (outside : List TypeRef) (value : TypeRef) (held : List TypeRef) (lists : List (List TypeRef))
    (point : Point) (saved : List Point) (ends : List (List Point)) (seen : List Seen) : Type 0 where
  pub confined : IsConfined types outside
  pub value_stands : Stands types outside value
  pub held_stand : All (Stands types outside) held
  pub lists_stand : All (All (Stands types outside)) lists
  pub point_stands : IsMap types point.map
  pub saved_stand : All (λ p. IsMap types p.map) saved
  pub ends_stand : All (All (λ p. IsMap types p.map)) ends
  pub seen_stand : All (StandsSeen types outside) seen
