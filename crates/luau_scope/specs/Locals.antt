-- The locals of a module, what its names stand for, and its static requires.
use Rattle.std.specs.Prelude.{ℕ, suc, ◌==◌, ◌&&◌, Bool, List, [], ◌∷◌, Option, Some, None, if◌then◌else◌, slice_get}
use Rattle.std.specs.Option.{option_and_then}
use Rattle.std.specs.List.{filter_map, list_any}
use Rattle.luau_tree.specs.declared.names.ExprId.{ExprId}
use Rattle.luau_tree.specs.Tree.{Block}
use Rattle.luau_scope.specs.declared.reading.Use.{Use}
use Rattle.luau_scope.specs.declared.reading.Use.TheVariants.{Local, Builtin}
use Rattle.luau_scope.specs.declared.reading.LocalInfo.{LocalInfo}
use Rattle.luau_scope.specs.declared.reading.RequireSite.{RequireSite}
use Rattle.luau_scope.specs.Found.{Found, Declares, Means, Captures, Assigns, RequiresModule}
use Rattle.luau_scope.specs.Finds.{found_in}

-- the local that a finding assigns, captures
abbrev pub an_assigned : Found → Option ℕ
an_assigned (Assigns local) = Some local
an_assigned _ = None

abbrev pub a_captured : Found → Option ℕ
a_captured (Captures local) = Some local
a_captured _ = None

-- the meaning that a finding gives an expression
abbrev pub a_use : Found → Option (ExprId × Use)
a_use (Means at meaning) = Some (at, meaning)
a_use _ = None

-- the static require that a finding is
abbrev pub a_require : Found → Option RequireSite
a_require (RequiresModule site) = Some site
a_require _ = None

-- whether a number is among some
abbrev pub is_among : ℕ → List ℕ → Bool
is_among n numbers = list_any (λ m. m == n) numbers

-- Locals from a number on, in the order of their declarations, where these are assigned and these captured.
abbrev pub locals_from : (assigned captured : List ℕ) → ℕ → List Found → List LocalInfo
locals_from assigned captured n [] = []
locals_from assigned captured n (Declares name declared function given ∷ found) =
    record {
      name = name;
      declared = declared;
      function = function;
      given = given;
      assigned = is_among n assigned;
      captured = is_among n captured;
      loose = is_among n assigned && is_among n captured;
    } ∷ locals_from assigned captured (suc n) found
locals_from assigned captured n (other ∷ found) = locals_from assigned captured n found

-- the locals of a module
abbrev pub locals_in : List Found → List LocalInfo
locals_in found = locals_from (filter_map an_assigned found) (filter_map a_captured found) 0 found

abbrev pub locals_of : List (List ℕ) → Block → List LocalInfo
locals_of paths block = locals_in (found_in paths block)

-- what its names and its builtins' paths stand for
abbrev pub uses_of : List (List ℕ) → Block → List (ExprId × Use)
uses_of paths block = filter_map a_use (found_in paths block)

-- its static requires
abbrev pub requires_of : List (List ℕ) → Block → List RequireSite
requires_of paths block = filter_map a_require (found_in paths block)

-- what an expression stands for, by the uses
abbrev pub use_at : List (ExprId × Use) → ExprId → Option Use
use_at [] at = None
use_at (u ∷ uses) at = if u.0.0 == at.0 then Some u.1 else use_at uses at

-- the path of a builtin
abbrev pub path_of : Option Use → Option (List ℕ)
path_of (Some (Builtin path)) = Some path
path_of _ = None

-- the builtin that a local has for ever: it isn't assigned, and its declaration gives it a builtin
abbrev pub given_builtin : List (ExprId × Use) → LocalInfo → Option (List ℕ)
given_builtin uses local = if local.assigned then None else option_and_then (λ at. path_of (use_at uses at)) local.given

-- the builtin that is meant for certain
abbrev pub fixed_by : List (ExprId × Use) → List LocalInfo → Option Use → Option (List ℕ)
fixed_by uses locals (Some (Builtin path)) = Some path
fixed_by uses locals (Some (Local local)) = option_and_then (given_builtin uses) (slice_get locals local.0)
fixed_by uses locals _ = None

-- the builtin that an expression is for certain: a builtin's path, or a local that has one for ever
abbrev pub fixed_at : List (ExprId × Use) → List LocalInfo → ExprId → Option (List ℕ)
fixed_at uses locals at = fixed_by uses locals (use_at uses at)
