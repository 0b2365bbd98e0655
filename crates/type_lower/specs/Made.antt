-- What calls on an arena have made.
use Rattle.std.specs.Prelude.{◌≡◌, ℕ, List, [], map, IsTrue, All}
use Rattle.type_arena.specs.Arena.{store_of}
use Rattle.type_arena.specs.Meaning.{term_of, fields_by}
use Rattle.type_arena.specs.Store.{has, field_types}
use Rattle.type_arena.specs.Term.{Term, Fields}
use Rattle.type_arena.specs.declared.arena.Arena.{Arena}
use Rattle.type_arena.specs.declared.node.TypeRef.{TypeRef}
use Rattle.type_normal.specs.Adds.{Adds}
use Rattle.type_normal.specs.Growing.{given_refs, IsClean}

-- references are in an arena
abbrev pub AreThere : Arena → List TypeRef → Type 0
AreThere arena refs = All (λ at. IsTrue (has (store_of arena) at)) refs

-- an arena got nodes, and a reference to a type, from which no homes are reached but those that may be used
pub record Made (old new : Arena) (given : List TypeRef) (at : TypeRef) (type : Term) : Type 0 where
  pub adds : Adds old new (given_refs given) []
  pub means : term_of (store_of new) at ≡ type
  pub there : IsTrue (has (store_of new) at)
  pub clean : IsClean old new (given_refs given) at

-- the same of the types of fields
pub record MadeFields (old new : Arena) (given : List TypeRef) (fields : List (List ℕ × TypeRef)) (types : Fields) : Type 0 where
  pub adds : Adds old new (given_refs given) []
  pub means : fields_by (term_of (store_of new)) fields ≡ types
  pub there : AreThere new (field_types fields)
  pub clean : All (IsClean old new (given_refs given)) (field_types fields)

-- the same of a list of types
pub record MadeTypes (old new : Arena) (given refs : List TypeRef) (types : List Term) : Type 0 where
  pub adds : Adds old new (given_refs given) []
  pub means : map (term_of (store_of new)) refs ≡ types
  pub there : AreThere new refs
  pub clean : All (IsClean old new (given_refs given)) refs
