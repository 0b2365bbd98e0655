-- The fields of a table, by their names and their types in the order of the text.
use Rattle.std.specs.Prelude.{ℕ, List, ◌∷◌, map, reverse, if◌then◌else◌}
use Rattle.type_arena.specs.Term.{Term, Fields, no_fields}
use Rattle.type_arena.specs.declared.node.TypeRef.{TypeRef}
use Rattle.type_normal.specs.HeapFree.{has_field}
use Rattle.type_normal.specs.Operations.{put_field}
use Rattle.local_types.specs.Entries.{type_of}
use Rattle.local_types.specs.declared.types.LocalTypes.{LocalTypes}

-- fields with one more that stands before them: of one name the last counts
abbrev pub with_earlier : List ℕ → Term → Fields → Fields
with_earlier name type fields = if has_field name fields then fields else put_field name type (λ later. later) fields

-- the fields with these names and types, of one name the last
abbrev pub fields_named : List (List ℕ) → List Term → Fields
fields_named (name ∷ names) (type ∷ types) = with_earlier name type (fields_named names types)
fields_named _ _ = no_fields

-- the types of references that stand the last first
abbrev pub types_listed : LocalTypes → List TypeRef → List Term
types_listed types refs = reverse (map (type_of types) refs)
