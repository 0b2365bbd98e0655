-- What the rules read of a module's names: what was found of them in its text.
use Rattle.std.specs.Prelude.{◌≡◌, ℕ, suc, ◌==◌, false, List, [], ◌∷◌, Option, if◌then◌else◌, slice_get}
use Rattle.std.specs.Option.{option_map, option_map_or, option_and_then}
use Rattle.luau_tree.specs.declared.names.ExprId.{ExprId}
use Rattle.luau_scope.specs.declared.reading.Use.{Use as Found}
use Rattle.luau_scope.specs.declared.reading.Use.TheVariants.{Local, Builtin, Library, Global}
use Rattle.luau_scope.specs.declared.reading.LocalInfo.{LocalInfo}
use Rattle.luau_scope.specs.Locals.{use_at, given_builtin}
use Rattle.luau_run.specs.ReadModule.{Use, UseLocal, UseBuiltin, UseLibrary, UseGlobal}
use Rattle.report_rules.specs.Rules.{Rules}

-- what a name stands for, as runs and rules read it
abbrev pub meaning_of : Found → Use
meaning_of (Local local) = UseLocal local.0
meaning_of (Builtin path) = UseBuiltin path
meaning_of Library = UseLibrary
meaning_of Global = UseGlobal

-- what an expression stands for, by its number
abbrev pub meaning_at : List (ExprId × Found) → ℕ → Option Use
meaning_at uses id = option_map meaning_of (use_at uses (record { 0 = id }))

-- the local whose name is declared at an offset, counted from a number on
abbrev pub declared_from : ℕ → List LocalInfo → (offset : ℕ) → ℕ
declared_from n [] offset = n
declared_from n (local ∷ locals) offset = if local.declared.start == offset then n else declared_from (suc n) locals offset

-- the rules read the names of a module as these uses and these locals say
pub record Reads (uses : List (ExprId × Found)) (locals : List LocalInfo) (rules : Rules) : Type 0 where
  pub meanings : (id : ℕ) → rules.reading.use_of id ≡ meaning_at uses id
  pub declared : (offset : ℕ) → rules.reading.local_at offset ≡ declared_from 0 locals offset
  pub assigned : (local : ℕ) → rules.assigned local ≡ option_map_or (λ found. found.assigned) (slice_get locals local) false
  pub caught : (local : ℕ) → rules.caught local ≡ option_map_or (λ found. found.captured) (slice_get locals local) false
  pub fixed : (local : ℕ) → rules.fixed local ≡ option_and_then (given_builtin uses) (slice_get locals local)
