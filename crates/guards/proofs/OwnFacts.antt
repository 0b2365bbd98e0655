-- Calls whose references all have the arena's own home.
use Rattle.std.proofs.Common.{◌≡◌, ℕ, ◌<◌, List, [], ◌∷◌, refl, sym, ◌∙◌, subst, arith}
use Rattle.std.specs.Prelude.{IsTrue, All, Contains}
use Rattle.std.proofs.lemmas.List.Elements.{All-contains, All-weaker, All-cons, All-nil}
use Rattle.type_arena.specs.Arena.{home_of, store_of}
use Rattle.type_arena.specs.Homes.{itself, by_ref, Given, MayUse, own_home, given_literal, reached}
use Rattle.type_arena.specs.Store.{has}
use Rattle.type_arena.specs.declared.arena.Arena.{Arena}
use Rattle.type_arena.specs.declared.node.TypeRef.{TypeRef}
use Rattle.type_normal.specs.Adds.{Adds}
use Rattle.type_normal.proofs.AddsFacts.{there_kept}
use Rattle.type_normal.specs.Growing.{given_refs, IsClean}
use Rattle.type_normal.proofs.CleanFacts.{home_back}
use Rattle.type_ops.proofs.GrowFacts.{adds_nothing, adds_more}
use Rattle.guards.specs.Own.{IsOwn}

nothing_in : {X : Type 0} (x : X) → Contains [] x → ⊥
nothing_in x h = let l : h.0 < 0 = h.1 in omega arith

may_own : (a : Arena) (refs : List TypeRef) → All (IsOwn a) refs → (home : ℕ) → MayUse (store_of a) (home_of a) (given_refs refs) home → home ≡ home_of a
may_own a refs own home own_home = refl
may_own a refs own home (given_literal h inside) = absurd (nothing_in h inside)
may_own a refs own home (reached at h inside way) = (All-contains (IsOwn a) refs at own inside).home h way

-- a call that is given such references uses the arena's own home
pub own_adds : (a b : Arena) (refs ys : List TypeRef) → All (IsOwn a) refs → Adds a b (given_refs refs) ys → Adds a b (given_refs []) []
own_adds a b refs ys own adds =
    adds_more a a b (given_refs []) (given_refs refs) [] ys (adds_nothing a (given_refs [])) adds
    (λ home may. subst (λ (h : ℕ). MayUse (store_of a) (home_of a) (given_refs []) h) (sym (may_own a refs own home may)) own_home)

pub own_clean : (a b : Arena) (refs : List TypeRef) (at : TypeRef) → All (IsOwn a) refs → home_of b ≡ home_of a → IsTrue (has (store_of b) at) → IsClean a b (given_refs refs) at → IsOwn b at
own_clean a b refs at own home there clean = record { there = there; home = λ h way. may_own a refs own h (clean h way) ∙ sym home }

-- such a reference stays one
pub own_later : (a b : Arena) (given : Given) (xs : List TypeRef) → Adds a b given xs → (at : TypeRef) → IsOwn a at → IsOwn b at
own_later a b given xs adds at own = record {
  there = there_kept (store_of a) (store_of b) at adds.keeps own.there;
  home = λ h way. own.home h (home_back (store_of a) (store_of b) a.sound adds.keeps at h way own.there) ∙ sym adds.home;
}

pub all_own_later : (a b : Arena) (given : Given) (xs : List TypeRef) → Adds a b given xs → (refs : List TypeRef) → All (IsOwn a) refs → All (IsOwn b) refs
all_own_later a b given xs adds refs all = All-weaker (IsOwn a) (IsOwn b) (own_later a b given xs adds) refs all

-- one call after another
pub adds_then : (a b c : Arena) (xs ys : List TypeRef) → Adds a b (given_refs []) xs → Adds b c (given_refs []) ys → Adds a c (given_refs []) []
adds_then a b c xs ys first second =
    adds_more a b c (given_refs []) (given_refs []) xs ys first second
    (λ home may. subst (λ (h : ℕ). MayUse (store_of a) (home_of a) (given_refs []) h) (sym (may_own b [] (All-nil (IsOwn b)) home may ∙ first.home)) own_home)

-- what is answered
pub clean_own : (a b : Arena) (at : TypeRef) → home_of b ≡ home_of a → IsOwn b at → IsClean a b (given_refs []) at
clean_own a b at home own h way = subst (λ (x : ℕ). MayUse (store_of a) (home_of a) (given_refs []) x) (sym (own.home h way ∙ home)) own_home

pub answers_own : (a b : Arena) (refs : List TypeRef) → Adds a b (given_refs []) [] → All (IsOwn b) refs → Adds a b (given_refs []) refs
answers_own a b refs adds own = record {
  below = adds.below;
  home = adds.home;
  keeps = adds.keeps;
  kept = adds.kept;
  homes = record {
    answered = All-weaker (IsOwn b) (λ at. MayUse (store_of a) (home_of a) (given_refs []) at.home) (λ at o. clean_own a b at adds.home o at.home (by_ref at itself)) refs own;
    refs = adds.homes.refs;
    literals = adds.homes.literals;
  };
}

pub both_own : (a : Arena) (x y : TypeRef) → IsOwn a x → IsOwn a y → All (IsOwn a) (x ∷ y ∷ [])
both_own a x y p q = All-cons (IsOwn a) x (y ∷ []) p (All-cons (IsOwn a) y [] q (All-nil (IsOwn a)))

-- what a call answers that is given such references
pub answer_own : (a b : Arena) (refs : List TypeRef) (at : TypeRef) → All (IsOwn a) refs → Adds a b (given_refs refs) (at ∷ []) → IsTrue (has (store_of b) at) → IsClean a b (given_refs refs) at → IsOwn b at
answer_own a b refs at own adds there clean = own_clean a b refs at own adds.home there clean

pub none_own : (a : Arena) → All (IsOwn a) []
none_own a = All-nil (IsOwn a)

pub single_own : (a : Arena) (x : TypeRef) → IsOwn a x → All (IsOwn a) (x ∷ [])
single_own a x p = All-cons (IsOwn a) x [] p (All-nil (IsOwn a))
