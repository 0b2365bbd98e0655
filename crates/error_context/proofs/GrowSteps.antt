-- What a call may use that is given the answer of another.
use Rattle.std.proofs.Common.{◌≡◌, ℕ, zero, suc, ◌<◌, List, [], ◌∷◌, sym, subst, arith}
use Rattle.std.specs.Prelude.{Contains}
use Rattle.type_arena.specs.Arena.{home_of, store_of}
use Rattle.type_arena.specs.Homes.{itself, Given, MayUse, own_home, given_literal, reached}
use Rattle.type_arena.specs.declared.arena.Arena.{Arena}
use Rattle.type_arena.specs.declared.node.TypeRef.{TypeRef}
use Rattle.type_normal.specs.Adds.{Adds}
use Rattle.type_normal.specs.Growing.{given_refs, IsClean}
use Rattle.type_ops.proofs.GrowFacts.{adds_nothing, adds_more, may_reach, clean_inner}

nothing_in : {X : Type 0} (x : X) → Contains [] x → ⊥
nothing_in x h = let l : h.0 < 0 = h.1 in omega arith

only_one : {X : Type 0} (x y : X) → Contains (x ∷ []) y → x ≡ y
only_one x y (zero, l, e) = e
only_one x y (suc k, l, e) = absurd (omega (arith, l))

-- what may be used where clean references are given may be used where those are given that they are clean of
pub may_clean : (a b : Arena) (given : Given) (refs : List TypeRef) → ((at : TypeRef) → Contains refs at → IsClean a b given at) → home_of b ≡ home_of a
    → (home : ℕ) → MayUse (store_of b) (home_of b) (given_refs refs) home → MayUse (store_of a) (home_of a) given home
may_clean a b given refs clean same home own_home = subst (λ (own : ℕ). MayUse (store_of a) (home_of a) given own) (sym same) own_home
may_clean a b given refs clean same home (given_literal h inside) = absurd (nothing_in h inside)
may_clean a b given refs clean same home (reached at h inside way) = clean at inside h way

pub may_answer : (a b : Arena) (given : Given) (at : TypeRef) → IsClean a b given at → home_of b ≡ home_of a
    → (home : ℕ) → MayUse (store_of b) (home_of b) (given_refs (at ∷ [])) home → MayUse (store_of a) (home_of a) given home
may_answer a b given at clean same = may_clean a b given (at ∷ []) (λ other inside. subst (IsClean a b given) (only_one at other inside) clean) same

-- more may be given than is
pub may_more : (a : Arena) (refs more : List TypeRef) → ((at : TypeRef) → Contains refs at → Contains more at)
    → (home : ℕ) → MayUse (store_of a) (home_of a) (given_refs refs) home → MayUse (store_of a) (home_of a) (given_refs more) home
may_more a refs more from = may_reach (store_of a) (home_of a) refs more (λ at inside. (at, from at inside, itself))

pub adds_wider : (a b : Arena) (refs more answers : List TypeRef) → ((at : TypeRef) → Contains refs at → Contains more at) → Adds a b (given_refs refs) answers → Adds a b (given_refs more) []
adds_wider a b refs more answers from adds = adds_more a a b (given_refs more) (given_refs refs) [] answers (adds_nothing a (given_refs more)) adds (may_more a refs more from)

pub clean_wider : (a b : Arena) (refs more : List TypeRef) (at : TypeRef) → ((other : TypeRef) → Contains refs other → Contains more other) → IsClean a b (given_refs refs) at → IsClean a b (given_refs more) at
clean_wider a b refs more at from clean = clean_inner a a b (given_refs more) (given_refs refs) at (may_more a refs more from) clean

-- one of two is among them
pub first_of : (a b : TypeRef) → (at : TypeRef) → Contains (a ∷ []) at → Contains (a ∷ b ∷ []) at
first_of a b at (zero, l, e) = (zero, omega arith, e)
first_of a b at (suc k, l, e) = absurd (omega (arith, l))
