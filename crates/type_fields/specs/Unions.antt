-- Unions of several types, and the types that rows have for a field.
use Rattle.std.specs.Prelude.{ℕ, List, [], ◌∷◌, map, if◌then◌else◌}
use Rattle.std.specs.Str.{bytes_eq}
use Rattle.type_arena.specs.Term.{Term, never}
use Rattle.type_arena.specs.declared.node.Row.{Row}
use Rattle.type_arena.specs.declared.node.TypeRef.{TypeRef}
use Rattle.type_normal.specs.Operations.{union}

-- the union of some types, and one more
abbrev pub unions_with : List Term → Term → Term
unions_with [] last = last
unions_with (type ∷ types) last = union type (unions_with types last)

-- the values of one of some types
abbrev pub unions : List Term → Term
unions types = unions_with types never

-- the reference that fields list for a name, and another one if they don't
abbrev pub listed_ref : List ℕ → TypeRef → List (List ℕ × TypeRef) → TypeRef
listed_ref name unlisted [] = unlisted
listed_ref name unlisted (field ∷ fields) = if bytes_eq field.0 name then field.1 else listed_ref name unlisted fields

-- the reference that each row has for a name
abbrev pub listed_refs : List ℕ → TypeRef → List Row → List TypeRef
listed_refs name unlisted rows = map (λ row. listed_ref name unlisted row.fields) rows
