-- What calls have made, one after another.
use Rattle.std.proofs.Common.{◌≡◌, ℕ, List, [], ◌∷◌, get_or, ap, ◌∙◌}
use Rattle.std.specs.Prelude.{Result, Ok, Err, IfOk, OnErr, IsTrue, All, Contains}
use Rattle.std.proofs.lemmas.List.Elements.{All-nil, All-cons, Contains-get_or}
use Rattle.type_arena.specs.Arena.{home_of, store_of}
use Rattle.type_arena.specs.Homes.{Given, MayUse}
use Rattle.type_arena.specs.Meaning.{term_of}
use Rattle.type_arena.specs.Store.{has, field_types}
use Rattle.type_arena.specs.Term.{Term}
use Rattle.type_arena.specs.declared.arena.Arena.{Arena}
use Rattle.type_arena.specs.declared.node.TypeRef.{TypeRef}
use Rattle.type_normal.specs.Adds.{Adds}
use Rattle.type_normal.specs.Cut.{cut_up}
use Rattle.type_normal.proofs.AddsFacts.{there_kept, ok_more}
use Rattle.type_normal.specs.Growing.{given_refs, IsClean}
use Rattle.type_ops.proofs.GrowFacts.{adds_nothing, adds_more, adds_clean, clean_may, clean_inner, clean_on, clean_given, fields_kept}
use Rattle.type_lower.specs.Joined.{joined}
use Rattle.type_lower.specs.Made.{AreThere, Made}
use Rattle.type_lower.specs.Visible.{known_behind, known_in}
use Rattle.type_lower.specs.declared.choosing.Choice.{Choice}

-- an answer that isn't asked for
pub adds_without : (a b : Arena) (given : Given) (xs : List TypeRef) → Adds a b given xs → Adds a b given []
adds_without a b given xs adds = record {
  below = adds.below;
  home = adds.home;
  keeps = adds.keeps;
  kept = adds.kept;
  homes = record {
    answered = All-nil (λ at. MayUse (store_of a) (home_of a) given at.home);
    refs = adds.homes.refs;
    literals = adds.homes.literals;
  };
}

-- a call behind others, which is given references that these made
pub adds_after : (a b c : Arena) (given refs : List TypeRef) → Adds a b (given_refs given) [] → All (IsClean a b (given_refs given)) refs → Adds b c (given_refs refs) [] → Adds a c (given_refs given) []
adds_after a b c given refs adds clean more = adds_more a b c (given_refs given) (given_refs refs) [] [] adds more (clean_may a b (given_refs given) refs clean adds.home)

pub made_after : (a b c : Arena) (given refs : List TypeRef) (at : TypeRef) (type : Term) → Adds a b (given_refs given) [] → All (IsClean a b (given_refs given)) refs → Made b c refs at type → Made a c given at type
made_after a b c given refs at type adds clean made = record {
  adds = adds_after a b c given refs adds clean made.adds;
  means = made.means;
  there = made.there;
  clean = clean_inner a b c (given_refs given) (given_refs refs) at (clean_may a b (given_refs given) refs clean adds.home) made.clean;
}

-- what is given may be given again
pub given_clean : (a b : Arena) (given : List TypeRef) → Adds a b (given_refs given) [] → AreThere a given → All (IsClean a b (given_refs given)) given
given_clean a b given adds there k d l = clean_given a b given [] (get_or given k d) adds (there k d l) (Contains-get_or given k d l)

pub given_there : (a b : Arena) (given : List TypeRef) (inner : Given) (xs : List TypeRef) → Adds a b inner xs → AreThere a given → AreThere b given
given_there a b given inner xs adds there k d l = there_kept (store_of a) (store_of b) (get_or given k d) adds.keeps (there k d l)

pub given_made : (a b : Arena) (given : List TypeRef) (x : TypeRef) → Adds a b (given_refs given) [] → IsTrue (has (store_of a) x) → Contains given x → Made a b given x (term_of (store_of a) x)
given_made a b given x adds there inside = record {
  adds = adds;
  means = adds.kept x there;
  there = there_kept (store_of a) (store_of b) x adds.keeps there;
  clean = clean_given a b given [] x adds there inside;
}

-- calls with the same references given, one behind another
pub adds_again : (a b c : Arena) (given : List TypeRef) → AreThere a given → Adds a b (given_refs given) [] → Adds b c (given_refs given) [] → Adds a c (given_refs given) []
adds_again a b c given there adds more = adds_after a b c given given adds (given_clean a b given adds there) more

pub made_again : (a b c : Arena) (given : List TypeRef) (at : TypeRef) (type : Term) → AreThere a given → Adds a b (given_refs given) [] → Made b c given at type → Made a c given at type
made_again a b c given at type there adds made = made_after a b c given given at type adds (given_clean a b given adds there) made

-- what was made stays
pub made_on : (a b c : Arena) (given : List TypeRef) (inner : Given) (xs : List TypeRef) (at : TypeRef) (type : Term) → Made a b given at type → Adds b c inner xs → Adds a c (given_refs given) [] → Made a c given at type
made_on a b c given inner xs at type made more adds = record {
  adds = adds;
  means = more.kept at made.there ∙ made.means;
  there = there_kept (store_of b) (store_of c) at more.keeps made.there;
  clean = clean_on a b c (given_refs given) at made.clean made.there more.keeps;
}

-- what is known stays known
pub known_kept : (a b : Arena) (given : Given) (xs : List TypeRef) → Adds a b given xs → (aliases : List (List ℕ × TypeRef)) → AreThere a (field_types aliases) → known_in b aliases ≡ known_in a aliases
known_kept a b given xs adds aliases there = ap (known_behind []) (fields_kept a b given xs adds aliases there)

two : (P : TypeRef → Type 0) (x y : TypeRef) → P x → P y → All P (x ∷ y ∷ [])
two P x y p q = All-cons P x (y ∷ []) p (All-cons P y [] q (All-nil P))

-- two types that were made, as one
pub both_adds : (a b c : Arena) (given : List TypeRef) (x y : TypeRef) (t u : Term) → Made a b given x t → Made a b given y u → Adds b c (given_refs (x ∷ y ∷ [])) [] → Adds a c (given_refs given) []
both_adds a b c given x y t u first second more = adds_after a b c given (x ∷ y ∷ []) first.adds (two (IsClean a b (given_refs given)) x y first.clean second.clean) more

pub both_made : (a b c : Arena) (given : List TypeRef) (choice : Choice) (x y at : TypeRef) (t u : Term) → Made a b given x t → Made a b given y u
    → Made b c (x ∷ y ∷ []) at (joined choice (term_of (store_of b) x) (term_of (store_of b) y)) → Made a c given at (joined choice t u)
both_made a b c given choice x y at t u first second made =
    let all = made_after a b c given (x ∷ y ∷ []) at (joined choice (term_of (store_of b) x) (term_of (store_of b) y)) first.adds (two (IsClean a b (given_refs given)) x y first.clean second.clean) made in
    record {
      adds = all.adds;
      means = all.means ∙ (λ i. joined choice (first.means i) (second.means i));
      there = all.there;
      clean = all.clean;
    }

-- one type that was made, and another that was made of it
pub one_adds : (a b c : Arena) (given : List TypeRef) (x : TypeRef) (t : Term) → Made a b given x t → Adds b c (given_refs (x ∷ [])) [] → Adds a c (given_refs given) []
one_adds a b c given x t first more = adds_after a b c given (x ∷ []) first.adds (All-cons (IsClean a b (given_refs given)) x [] first.clean (All-nil (IsClean a b (given_refs given)))) more

pub one_made : (a b c : Arena) (given : List TypeRef) (x at : TypeRef) (t : Term) (f : Term → Term) → Made a b given x t → Made b c (x ∷ []) at (f (term_of (store_of b) x)) → Made a c given at (f t)
one_made a b c given x at t f first made =
    let all = made_after a b c given (x ∷ []) at (f (term_of (store_of b) x)) first.adds (All-cons (IsClean a b (given_refs given)) x [] first.clean (All-nil (IsClean a b (given_refs given)))) made in
    record { adds = all.adds; means = all.means ∙ ap f first.means; there = all.there; clean = all.clean }

-- a call that was given nothing, behind none
pub free_adds : (a b : Arena) (given : List TypeRef) → Adds a b (given_refs []) [] → Adds a b (given_refs given) []
free_adds a b given adds = adds_after a a b given [] (adds_nothing a (given_refs given)) (All-nil (IsClean a a (given_refs given))) adds

pub free_made : (a b : Arena) (given : List TypeRef) (at : TypeRef) (type : Term) → term_of (store_of b) at ≡ type → IsTrue (has (store_of b) at) → Adds a b (given_refs []) (at ∷ []) → IsClean a b (given_refs []) at → Made a b given at type
free_made a b given at type means there adds clean =
    made_after a a b given [] at type (adds_nothing a (given_refs given)) (All-nil (IsClean a a (given_refs given)))
    (record { adds = adds_without a b (given_refs []) (at ∷ []) adds; means = means; there = there; clean = clean })

-- what a public call of other crates says, as what was made
pub call_made : (a b : Arena) (given : List TypeRef) (at : TypeRef) (type : Term) → term_of (store_of b) at ≡ type → IsTrue (has (store_of b) at) → Adds a b (given_refs given) (at ∷ []) → IsClean a b (given_refs given) at → Made a b given at type
call_made a b given at type means there adds clean = record { adds = adds_without a b (given_refs given) (at ∷ []) adds; means = means; there = there; clean = clean }

pub as_type : (a b : Arena) (given : List TypeRef) (at : TypeRef) (t u : Term) → Made a b given at t → t ≡ u → Made a b given at u
as_type a b given at t u made e = record { adds = made.adds; means = made.means ∙ e; there = made.there; clean = made.clean }

-- what was made may be answered
pub answered : (a b : Arena) (given : List TypeRef) (at : TypeRef) (t : Term) → Made a b given at t → Adds a b (given_refs given) (at ∷ [])
answered a b given at t made = adds_clean a b (given_refs given) [] at made.adds made.clean

-- what holds after an error, from what holds there
pub err_more : {A E : Type 0} (r : Result A E) (P Q : Type 0) → OnErr r P → (P → Q) → OnErr r Q
err_more (Ok x) P Q p more = tt
err_more (Err e) P Q p more = more p

pub on_err : {A E : Type 0} (r : Result A E) (P : Type 0) → P → OnErr r P
on_err (Ok x) P p = tt
on_err (Err e) P p = p

-- what holds whatever is given
pub plain_made : {E : Type 0} (r : Result TypeRef E) (a b : Arena) (given : List TypeRef) (t u : Term) → IfOk r (λ at. (all : List TypeRef) → Made a b all at t) → t ≡ u → IfOk r (λ at. Made a b given at u)
plain_made r a b given t u made e = ok_more r _ _ made (λ at m. as_type a b given at t u (m given) e)

pub plain_err : {E : Type 0} (r : Result TypeRef E) (a b : Arena) (given : List TypeRef) → OnErr r ((all : List TypeRef) → Adds a b (given_refs all) []) → OnErr r (Adds a b (given_refs given) [])
plain_err r a b given err = err_more r _ _ err (λ m. m given)

-- a type that was made, and then cut
pub cut_made : {E : Type 0} (r : Result TypeRef E) (a b c : Arena) (given : List TypeRef) (x : TypeRef) (t u : Term) → Made a b given x t → IfOk r (λ at. Made b c (x ∷ []) at (cut_up (term_of (store_of b) x)))
    → cut_up t ≡ u → IfOk r (λ at. Made a c given at u)
cut_made r a b c given x t u first made e = ok_more r _ _ made (λ at m. as_type a c given at (cut_up t) u (one_made a b c given x at t cut_up first m) e)

pub cut_err : {E : Type 0} (r : Result TypeRef E) (a b c : Arena) (given : List TypeRef) (x : TypeRef) (t : Term) → Made a b given x t → OnErr r (Adds b c (given_refs (x ∷ [])) []) → OnErr r (Adds a c (given_refs given) [])
cut_err r a b c given x t first err = err_more r _ _ err (λ m. one_adds a b c given x t first m)

pub typed_made : {E : Type 0} (r : Result TypeRef E) (a b : Arena) (given : List TypeRef) (t u : Term) → IfOk r (λ at. Made a b given at t) → t ≡ u → IfOk r (λ at. Made a b given at u)
typed_made r a b given t u made e = ok_more r _ _ made (λ at m. as_type a b given at t u m e)

-- a type that was made, and then another one of it
pub then_made : {E : Type 0} (r : Result TypeRef E) (a b c : Arena) (given : List TypeRef) (x : TypeRef) (t u : Term) (f : Term → Term) → Made a b given x t → IfOk r (λ at. Made b c (x ∷ []) at (f (term_of (store_of b) x)))
    → f t ≡ u → IfOk r (λ at. Made a c given at u)
then_made r a b c given x t u f first made e = ok_more r _ _ made (λ at m. as_type a c given at (f t) u (one_made a b c given x at t f first m) e)

pub then_err : {E : Type 0} (r : Result TypeRef E) (a b c : Arena) (given : List TypeRef) (x : TypeRef) (t : Term) → Made a b given x t → OnErr r (Adds b c (given_refs (x ∷ [])) []) → OnErr r (Adds a c (given_refs given) [])
then_err r a b c given x t first err = err_more r _ _ err (λ m. one_adds a b c given x t first m)
