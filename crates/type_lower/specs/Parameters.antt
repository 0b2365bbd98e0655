-- What is visible in a function, and the types of its parameters.
use Rattle.std.specs.Prelude.{◌≡◌, ℕ, List}
use Rattle.luau_tree.specs.Tree.{Body, the_body}
use Rattle.type_arena.specs.Term.{Term}
use Rattle.annotations.specs.Lowered.{Known}
use Rattle.annotations.specs.Annotated.{Annotated, with_generics, param_types, type_at}

-- the names that are visible in a body, among its parameters and in its block: its generics count before those around it
abbrev pub known_inside : List Known → Body → List Known
known_inside known (the_body id has_self generics params vararg result body span) = with_generics generics known

-- the types that are written for the parameters of a body
abbrev pub types_inside : List Known → Body → List Term
types_inside known (the_body id has_self generics params vararg result body span) = param_types (with_generics generics known) params

-- types that are said of parameters, by the number of a body and the position, are those that the body has
abbrev pub AreSaid : (says : (function index : ℕ) → Term) → Annotated → Type 0
AreSaid says a = (index : ℕ) → says a.function index ≡ type_at index a.params
