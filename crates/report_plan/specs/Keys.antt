-- Keys of elements.
use Rattle.std.specs.Prelude.{ℕ, List, Option, Some, None}
use Rattle.luau_tree.specs.Tree.{Expr, the_expr, StrExpr}

-- the name that a key is written as
abbrev pub key_name : Expr → Option (List ℕ)
key_name (the_expr id span (StrExpr name)) = Some name
key_name key = None
