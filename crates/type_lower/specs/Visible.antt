-- Visible names, each with a reference to the type that it means, in the order in which they came.
use Rattle.std.specs.Prelude.{ℕ, List, [], ◌∷◌, Option, Some, None, if◌then◌else◌}
use Rattle.std.specs.Str.{bytes_eq}
use Rattle.type_arena.specs.Arena.{store_of}
use Rattle.type_arena.specs.Meaning.{term_of, fields_by}
use Rattle.type_arena.specs.Term.{Fields, no_fields, more_fields}
use Rattle.type_arena.specs.declared.arena.Arena.{Arena}
use Rattle.type_arena.specs.declared.node.TypeRef.{TypeRef}
use Rattle.annotations.specs.Lowered.{Known, with_name}

-- the reference of a name: that of the last of the name
abbrev pub last_of : List ℕ → List (List ℕ × TypeRef) → Option TypeRef
last_of name [] = None
last_of name (alias ∷ aliases) = elim (last_of name aliases) [ None ↦ if bytes_eq alias.0 name then Some alias.1 else None | Some at ↦ Some at ]

-- what is known behind some names that came later, each with its type: the last counts first
abbrev pub known_behind : List Known → Fields → List Known
known_behind known no_fields = known
known_behind known (more_fields name type names) = known_behind (with_name name type known) names

-- what visible names mean in an arena
abbrev pub known_in : Arena → List (List ℕ × TypeRef) → List Known
known_in arena aliases = known_behind [] (fields_by (term_of (store_of arena)) aliases)
