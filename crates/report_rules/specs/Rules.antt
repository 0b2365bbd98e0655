-- What the rules read of a module: its reading, what was found out of its locals, and the types of what it uses.
use Rattle.std.specs.Prelude.{ℕ, Bool, false, ◌&&◌, List, Option, Some, None}
use Rattle.std.specs.Option.{option_map_or}
use Rattle.std.specs.List.{find}
use Rattle.std.specs.Str.{bytes_eq}
use Rattle.luau_tree.specs.Tree.{Expr, the_expr, NameExpr}
use Rattle.luau_run.specs.ReadModule.{Use, UseLocal, UseBuiltin, ReadModule}
use Rattle.luau_run.specs.ReadFolder.{local_of}
use Rattle.type_arena.specs.Term.{Term, Function}

-- a declared builtin: the types of its parameters and of its results; `rest` speaks of the arguments past the parameters,
-- which are free without it, and `more` of the results past the declared ones, of which there are none without it
pub record TypedBuiltin : Type 0 where
  pub path : List ℕ
  pub params : List Term
  pub rest : Option Term
  pub results : List Term
  pub more : Option Term
  pub checked : Bool
  pub quiet : Bool

-- one module, as the rules read it. Locals, expressions and bodies are meant by their numbers
pub record Rules : Type 0 where
  pub reading : ReadModule
  -- whether some statement assigns a local
  pub assigned : ℕ → Bool
  -- whether some function body captures a local
  pub caught : ℕ → Bool
  -- the builtin that a local always holds
  pub fixed : ℕ → Option (List ℕ)
  pub table : List TypedBuiltin
  -- the type of a body's parameter, unknown where none is written
  pub annotation : (function index : ℕ) → Term
  -- for each static require, the type of what it gives
  pub import : ℕ → Term
  -- what a function that was seen before an offset demands of its arguments; no rule asks it yet
  pub known : (start : ℕ) → Function → Option (List Term)

-- a local is loose if it is captured and assigned: what it holds may change at any time, so nothing is said of it
abbrev pub loose : Rules → ℕ → Bool
loose rules local = rules.assigned local && rules.caught local

-- what an expression stands for
abbrev pub use_of : Rules → Expr → Option Use
use_of rules (the_expr id span kind) = rules.reading.use_of id

-- the local that an expression is the bare name of
abbrev pub local_named : Rules → Expr → Option ℕ
local_named rules (the_expr id span (NameExpr name)) = local_of (rules.reading.use_of id)
local_named rules _ = None

-- the builtin that an expression always is: by its path, or as a local that always holds it
abbrev pub fixed_use : Rules → Option Use → Option (List ℕ)
fixed_use rules (Some (UseBuiltin path)) = Some path
fixed_use rules (Some (UseLocal local)) = rules.fixed local
fixed_use rules _ = None

abbrev pub fixed_builtin : Rules → Expr → Option (List ℕ)
fixed_builtin rules e = fixed_use rules (use_of rules e)

-- the declaration of a builtin
abbrev pub declared : Rules → List ℕ → Option TypedBuiltin
declared rules path = find (λ b. bytes_eq b.path path) rules.table

-- a call is quiet if its callee is always one builtin, and that is declared quiet
abbrev pub is_quiet_call : Rules → Expr → Bool
is_quiet_call rules callee =
    option_map_or (λ path. option_map_or (λ b. b.quiet) (declared rules path) false) (fixed_builtin rules callee) false
