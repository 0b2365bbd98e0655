-- Where a member goes in a list that is in order.
use Rattle.std.specs.Prelude.{ℕ, zero, suc, List, [], ◌∷◌, Option, Some, None}
use Rattle.std.specs.declared.cmp.Ordering.{Ordering}
use Rattle.type_normal.specs.Members.{by_order}

-- one place further on
abbrev pub later : Option ℕ → Option ℕ
later None = None
later (Some n) = Some (suc n)

-- before the first that comes after it, and nowhere if one is the same; each of the list is compared by a test
abbrev pub place : {X : Type 0} → (X → Ordering) → List X → Option ℕ
place cmp [] = Some 0
place cmp (y ∷ ys) = by_order (cmp y) (Some 0) None (later (place cmp ys))
