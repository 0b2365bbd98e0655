-- What static requires give, and where that leads.
use Rattle.std.specs.Prelude.{◌≡◌, ℕ, ◌==◌, List, [], ◌∷◌, Option, Some, None, map, option_map, if◌then◌else◌}
use Rattle.luau_tree.specs.declared.names.ExprId.{ExprId}
use Rattle.luau_scope.specs.declared.reading.Scoped.{Scoped}
use Rattle.type_arena.specs.Meaning.{term_of}
use Rattle.type_arena.specs.Store.{Store}
use Rattle.type_arena.specs.Term.{Term}
use Rattle.type_arena.specs.declared.node.TypeRef.{TypeRef}
use Rattle.module_reading.specs.Readings.{required_at}

-- the type beside a call, by its number: the first counts
abbrev pub import_at : List (ExprId × TypeRef) → ℕ → Option TypeRef
import_at [] id = None
import_at (entry ∷ rest) id = if entry.0.0 == id then Some entry.1 else import_at rest id

-- the types beside calls
abbrev pub types_imported : List (ExprId × TypeRef) → List TypeRef
types_imported imports = map (λ entry. entry.1) imports

-- the static requires that lead to a module, and no other calls, are listed, each with the type that it gives
abbrev pub AreImports : Scoped → Store → List (ExprId × TypeRef) → (leads : List ℕ → Option ℕ) → (import : ℕ → Term) → Type 0
AreImports scoped store imports leads import =
    (id : ℕ) → option_map (term_of store) (import_at imports id) ≡ option_map (λ other. import id) (required_at scoped.required leads id)
