-- Small modules, written as trees.
use Rattle.std.specs.Prelude.{ℕ, ◌+◌, List, [], ◌∷◌, Option, codes, map, false, Bool}
use Rattle.std.specs.Option.{option_map}
use Rattle.luau_tree.specs.declared.position.Span.{Span}
use Rattle.luau_tree.specs.Tree.{Block, no_stats, more_stats, the_stat, StatKind, Expr, the_expr, Exprs, no_exprs, more_exprs, ExprKind, NumberExpr, NameExpr, Call, Body, the_body, no_varargs, the_bind, Binds, no_binds, more_binds, no_gens, no_type}
use Rattle.luau_scope.specs.declared.refusal.Refusal.{Refusal}
use Rattle.luau_scope.specs.declared.reading.Use.{Use}
use Rattle.luau_tree.specs.declared.names.LocalId.{LocalId}
use Rattle.luau_scope.specs.Locals.{uses_of, locals_of, requires_of, fixed_at}
use Rattle.luau_scope.specs.Captured.{captured_of}
use Rattle.luau_scope.specs.Refusals.{refusal_of}

-- a piece of text that begins at an offset; its end plays no part
abbrev pub from : ℕ → Span
from start = record { start = start; end = start + 1 }

-- an expression, whose number is that of its offset here
abbrev pub e : ℕ → ExprKind → Expr
e at kind = the_expr at (from at) kind

-- a name
abbrev pub name : ℕ → List ℕ → Expr
name at bytes = e at (NameExpr bytes)

-- `1`
abbrev pub num : ℕ → Expr
num at = e at (NumberExpr (codes "1"))

abbrev pub exprs : List Expr → Exprs
exprs [] = no_exprs
exprs (x ∷ xs) = more_exprs x (exprs xs)

-- declarations without types: offsets and names
abbrev pub binds : List (ℕ × List ℕ) → Binds
binds [] = no_binds
binds (b ∷ bs) = more_binds (the_bind b.1 (from b.0) no_type) (binds bs)

-- statements, each with its offset
abbrev pub stats : List (ℕ × StatKind) → Block
stats [] = no_stats
stats (s ∷ ss) = more_stats (the_stat (from s.0) s.1) (stats ss)

-- a function with a number
abbrev pub body : ℕ → List (ℕ × List ℕ) → List (ℕ × StatKind) → Body
body id params kinds = the_body id false no_gens (binds params) no_varargs no_type (stats kinds) (from 0)

-- `CALLEE(ARGS)`
abbrev pub call : ℕ → Expr → List Expr → Expr
call at callee args = e at (Call callee (exprs args))

-- the only declared builtin of the examples
abbrev pub only_abs : List (List ℕ)
only_abs = codes "math.abs" ∷ []

-- what the names of a module stand for: by the numbers of their expressions
abbrev pub uses : List (ℕ × StatKind) → List (ℕ × Use)
uses kinds = map (λ u. (u.0.0, u.1)) (uses_of only_abs (stats kinds))

-- the offset of the refusal, and its reason
abbrev pub refusal : List (ℕ × StatKind) → Option (ℕ × Refusal)
refusal kinds = option_map (λ r. (r.1.start, r.0)) (refusal_of only_abs (stats kinds))

-- of each local: assigned, captured, loose
abbrev pub marks : List (ℕ × StatKind) → List (Bool × Bool × Bool)
marks kinds = map (λ l. (l.assigned, l.captured, l.loose)) (locals_of only_abs (stats kinds))

-- a local by its number
abbrev pub number : ℕ → LocalId
number n = record { 0 = n }

-- the builtin that an expression is for certain
abbrev pub fixed : List (ℕ × StatKind) → ℕ → Option (List ℕ)
fixed kinds at = fixed_at (uses_of only_abs (stats kinds)) (locals_of only_abs (stats kinds)) (record { 0 = at })

-- the static requires: by the numbers of their calls
abbrev pub requires_in : List (ℕ × StatKind) → List (ℕ × List ℕ)
requires_in kinds = map (λ r. (r.at.0, r.text)) (requires_of only_abs (stats kinds))

-- the captured locals of each body
abbrev pub captures : List (ℕ × StatKind) → List (List ℕ)
captures kinds = captured_of only_abs (stats kinds)
