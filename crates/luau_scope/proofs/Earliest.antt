-- The earliest refusal is one of them, and none comes before it.
use Rattle.std.proofs.Common.{◌≡◌, ℕ, Bool, true, false, List, [], ◌∷◌, refl, arith, inl, inr}
use Rattle.std.specs.Prelude.{Option, Some, None, if◌then◌else◌, nat_lt, ◌||◌, ◌&&◌, ◌==◌}
use Rattle.std.specs.List.{AllByRecursion}
use Rattle.std.proofs.lemmas.Bool.Decides.{nat_tests}
use Rattle.luau_scope.specs.Refusals.{Refused, rank, comes_before, earlier_of, earliest}
use Rattle.luau_scope.specs.Laws.{IsEarliest}

asymmetric : (a b i j : ℕ) → (nat_lt a b || (a == b && nat_lt i j)) ≡ true → (nat_lt b a || (b == a && nat_lt j i)) ≡ false
asymmetric a b i j h = grind (arith, nat_tests)

behind : (a b c i j k : ℕ) → (nat_lt a b || (a == b && nat_lt i j)) ≡ false → (nat_lt b c || (b == c && nat_lt j k)) ≡ false → (nat_lt a c || (a == c && nat_lt i k)) ≡ false
behind a b c i j k h l = grind (arith, nat_tests)

all_behind : (r s : Refused) (rs : List Refused) → comes_before s r ≡ false → AllByRecursion (λ t. comes_before t s ≡ false) rs → AllByRecursion (λ t. comes_before t r ≡ false) rs
all_behind r s [] h a = a
all_behind r s (t ∷ rs) h a = (behind t.1.start s.1.start r.1.start (rank t.0) (rank s.0) (rank r.0) a.0 h, all_behind r s rs h a.1)

irreflexive : (a i : ℕ) → (nat_lt a a || (a == a && nat_lt i i)) ≡ false
irreflexive a i = grind (arith, nat_tests)

with_one : (r s : Refused) (rs : List Refused) (b : Bool) → comes_before s r ≡ b → IsEarliest rs (Some s) → IsEarliest (r ∷ rs) (Some (if b then s else r))
with_one r s rs true e i = (inr i.0, (asymmetric s.1.start r.1.start (rank s.0) (rank r.0) e, i.1))
with_one r s rs false e i = (inl refl, (irreflexive r.1.start (rank r.0), all_behind r s rs e i.1))

with_first : (r : Refused) (rs : List Refused) (best : Option Refused) → IsEarliest rs best → IsEarliest (r ∷ rs) (elim best as (λ _. Option Refused) [ None ↦ Some r | Some s ↦ Some (earlier_of r s) ])
with_first r [] None i = (inl refl, (irreflexive r.1.start (rank r.0), tt))
with_first r (t ∷ rs) None i = absurd i
with_first r rs (Some s) i = with_one r s rs (comes_before s r) refl i

pub is_earliest : (rs : List Refused) → IsEarliest rs (earliest rs)
is_earliest [] = tt
is_earliest (r ∷ rs) = with_first r rs (earliest rs) (is_earliest rs)
