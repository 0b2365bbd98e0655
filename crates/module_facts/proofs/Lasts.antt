-- The last expression of a list.
use Rattle.std.proofs.Common.{◌≡◌, ℕ, suc, ◌-◌, List, [], ◌∷◌, length, refl, sym, ap, ◌∙◌, arith}
use Rattle.std.specs.Prelude.{Option, Some, None, slice_get}
use Rattle.luau_tree.specs.declared.tree as code
use Rattle.luau_tree.specs.View.{view_expr, view_exprs}
use Rattle.report_rules.specs.Effects as syntax

pub last_seen : (xs : List code.Expr.Expr) (x : code.Expr.Expr) → Some x ≡ slice_get xs (length xs - 1) → syntax.expands (view_expr x) ≡ syntax.last_expands (view_exprs xs)
last_seen [] x e = cc
last_seen (y ∷ []) x e = ap (λ (z : code.Expr.Expr). syntax.expands (view_expr z)) (let same : x ≡ y = cc in same)
last_seen (y ∷ z ∷ zs) x e =
    last_seen (z ∷ zs) x (e ∙ ap (slice_get (y ∷ z ∷ zs)) (let more : length (y ∷ z ∷ zs) - 1 ≡ suc (length (z ∷ zs) - 1) = omega arith in more))
