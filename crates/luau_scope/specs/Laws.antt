-- Words for the laws: what a list of nodes and a list of findings say, and orders of numbers.
use Rattle.std.specs.Prelude.{◌≡◌, ◌≤◌, ◌⊎◌, ⊤, ℕ, suc, false, List, [], ◌∷◌, Option, Some, None}
use Rattle.luau_tree.specs.declared.position.Span.{Span}
use Rattle.luau_tree.specs.Tree.{Expr, the_expr, NameExpr, Bind, the_bind}
use Rattle.luau_scope.specs.declared.reading.LocalInfo.{LocalInfo}
use Rattle.luau_scope.specs.Refusals.{Refused, comes_before}
use Rattle.std.specs.List.{AllByRecursion}

-- numbers ascend, from a lowest one on
abbrev pub AscendFrom : ℕ → List ℕ → Type 0
AscendFrom lowest [] = ⊤
AscendFrom lowest (n ∷ numbers) = (lowest ≤ n) × AscendFrom (suc n) numbers

-- one list comes of another by leaving items out
pub data Within : List ℕ → List ℕ → Type 0 where
  none : Within [] []
  both : {xs ys : List ℕ} (x : ℕ) → Within xs ys → Within (x ∷ xs) (x ∷ ys)
  left_out : {xs ys : List ℕ} (y : ℕ) → Within xs ys → Within xs (y ∷ ys)

-- the numbers of the expressions that are names
abbrev pub name_numbers : List Expr → List ℕ
name_numbers [] = []
name_numbers (the_expr id span (NameExpr name) ∷ es) = id ∷ name_numbers es
name_numbers (the_expr id span other ∷ es) = name_numbers es

-- a declared name and where it stands
abbrev pub bind_name_and_span : Bind → List ℕ × Span
bind_name_and_span (the_bind name span typ) = (name, span)

abbrev pub local_name_and_span : LocalInfo → List ℕ × Span
local_name_and_span local = (local.name, local.declared)

-- a refusal is one of some
abbrev pub IsOneOf : Refused → List Refused → Type 0
IsOneOf r [] = ⊥
IsOneOf r (s ∷ refusals) = (r ≡ s) ⊎ IsOneOf r refusals

-- a refusal is one of some and none comes before it, or there is none
abbrev pub IsEarliest : List Refused → Option Refused → Type 0
IsEarliest [] None = ⊤
IsEarliest (s ∷ refusals) None = ⊥
IsEarliest refusals (Some r) = IsOneOf r refusals × AllByRecursion (λ s. comes_before s r ≡ false) refusals
