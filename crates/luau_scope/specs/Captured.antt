-- Which locals from outside a body uses.
use Rattle.std.specs.Prelude.{ℕ, suc, not, List, [], ◌∷◌, map, filter, Option, Some, None, if◌then◌else◌}
use Rattle.std.specs.List.{filter_map}
use Rattle.luau_tree.specs.declared.names.ExprId.{ExprId}
use Rattle.luau_tree.specs.Tree.{Block, Body, Bind, the_bind}
use Rattle.luau_tree.specs.Nodes.{nodes_of_body, exprs_among, binds_among, bodies_in, expr_number}
use Rattle.luau_scope.specs.declared.reading.Use.{Use}
use Rattle.luau_scope.specs.declared.reading.Use.TheVariants.{Local}
use Rattle.luau_scope.specs.declared.reading.LocalInfo.{LocalInfo}
use Rattle.luau_scope.specs.Locals.{is_among, uses_of, locals_of}

-- the local that a use is
abbrev pub a_local : Use → Option ℕ
a_local (Local local) = Some local.0
a_local other = None

-- the local of a use, if its expression is one of these
abbrev pub used_at : List ℕ → ExprId × Use → Option ℕ
used_at numbers u = if is_among u.0.0 numbers then a_local u.1 else None

-- the locals that are used in a body, itself or in a function literal within
abbrev pub used_in : List (ExprId × Use) → Body → List ℕ
used_in uses body = filter_map (used_at (map expr_number (exprs_among (nodes_of_body body)))) uses

-- where a declared name begins
abbrev pub bind_start : Bind → ℕ
bind_start (the_bind name span typ) = span.start

-- the numbers of the locals that are declared at these offsets, from a number on
abbrev pub declared_at : List ℕ → ℕ → List LocalInfo → List ℕ
declared_at starts n [] = []
declared_at starts n (local ∷ locals) =
    if is_among local.declared.start starts then n ∷ declared_at starts (suc n) locals else declared_at starts (suc n) locals

-- the locals that are declared in a body, itself or in a function literal within
abbrev pub declared_in : List LocalInfo → Body → List ℕ
declared_in locals body = declared_at (map bind_start (binds_among (nodes_of_body body))) 0 locals

-- the captured locals of a body: those that it uses and doesn't declare
abbrev pub captured_in : List (ExprId × Use) → List LocalInfo → Body → List ℕ
captured_in uses locals body = filter (λ n. not (is_among n (declared_in locals body))) (used_in uses body)

-- the captured locals of each body of a module, in the order of the text
abbrev pub captured_of : List (List ℕ) → Block → List (List ℕ)
captured_of paths block = map (captured_in (uses_of paths block) (locals_of paths block)) (bodies_in block)
