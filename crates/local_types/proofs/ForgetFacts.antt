-- What maps have while nothing is known of one local after another.
use Rattle.std.proofs.Common.{◌≡◌, ℕ, ◌+◌, ◌<◌, List, [], ◌∷◌, ◌++◌, length, get_or, take, refl, sym, ap, subst, ◌∙◌, arith}
use Rattle.std.specs.Prelude.{Bool, true, false, ◌==◌, ◌||◌, IsTrue, map, if◌then◌else◌}
use Rattle.std.specs.List.{list_any}
use Rattle.std.proofs.lemmas.Bool.Decides.{nat_tests}
use Rattle.std.proofs.lemmas.List.{take_more, map-append}
use Rattle.std.proofs.lemmas.List.Folds.{list_any-append}
use Rattle.luau_tree.specs.declared.names.LocalId.{LocalId}
use Rattle.type_arena.specs.Store.{has}
use Rattle.type_arena.specs.Term.{Term}
use Rattle.type_arena.specs.declared.node.TypeRef.{TypeRef}
use Rattle.type_normal.specs.Kinds.{unknown}
use Rattle.local_types.specs.Entries.{arenas_of, type_of, entry_of, with_entry, IsMap}
use Rattle.local_types.specs.Growing.{Grows, IsMadeOf}
use Rattle.local_types.specs.Locals.{numbers, forgetting}
use Rattle.local_types.specs.declared.node.LocalMap.{LocalMap}
use Rattle.local_types.specs.declared.types.LocalTypes.{LocalTypes}
use Rattle.local_types.proofs.GrowFacts.{entry_stays, grows_then, made_one, type_stands, type_stays}

-- nothing is known of some locals
pub record Forgot (old new : LocalTypes) (map now : LocalMap) (done : List ℕ) (at : TypeRef) : Type 0 where
  pub grows : Grows old new []
  pub stands : IsMap new now
  pub there : IsTrue (has (arenas_of new) at)
  pub means : type_of new at ≡ unknown
  pub entries : (n : ℕ) → entry_of new now n ≡ forgetting done (entry_of old map) n

pub forgot_none : (old new : LocalTypes) (map : LocalMap) (at : TypeRef) → IsMap old map → IsMap new map → Grows old new [] → IsTrue (has (arenas_of new) at) → type_of new at ≡ unknown → Forgot old new map map [] at
forgot_none old new map at is stands grows there means =
    record { grows = grows; stands = stands; there = there; means = means; entries = λ n. entry_stays old new [] grows map is n }

same_test : (a b : ℕ) → (a == b) ≡ (b == a)
same_test a b = grind (arith, nat_tests)

one_more : (done : List ℕ) (local : ℕ) (f : ℕ → Term) (n : ℕ) → ◌≡◌ {A = Term} (if n == local then unknown else forgetting done f n) (forgetting (done ++ local ∷ []) f n)
one_more done local f n =
    cases (n == local) (list_any (λ (l : ℕ). l == n) done)
    ∙ ap (λ (b : Bool). if b then unknown else f n) (sym (list_any-append (λ (l : ℕ). l == n) done (local ∷ []) ∙ ap (λ (b : Bool). list_any (λ (l : ℕ). l == n) done || (b || false)) (same_test local n)))
  where
    cases : (a b : Bool) → ◌≡◌ {A = Term} (if a then unknown else (if b then unknown else f n)) (if b || (a || false) then unknown else f n)
    cases true true = refl
    cases true false = refl
    cases false true = refl
    cases false false = refl

pub forgot_more : (old b c : LocalTypes) (map now next : LocalMap) (done : List ℕ) (local : ℕ) (at : TypeRef) → Forgot old b map now done at → IsMadeOf old [] at
    → Grows b c (at ∷ []) → IsMap c next → ((n : ℕ) → entry_of c next n ≡ with_entry local (type_of b at) (entry_of b now) n) → Forgot old c map next (done ++ local ∷ []) at
forgot_more old b c map now next done local at so made grows stands entries = record {
  grows = grows_then old b c [] (at ∷ []) so.grows grows (made_one old [] at made);
  stands = stands;
  there = type_stands b c (at ∷ []) grows at so.there;
  means = type_stays b c (at ∷ []) grows at so.there ∙ so.means;
  entries = λ n. entries n ∙ (λ i. if n == local then so.means i else so.entries n i) ∙ one_more done local (entry_of old map) n;
}

-- one more of the list
pub numbers_more : (locals : List LocalId) (i : ℕ) (local : LocalId) → i < length locals → numbers (take i locals) ++ (get_or locals i local).0 ∷ [] ≡ numbers (take (i + 1) locals)
numbers_more locals i local l =
    sym (ap numbers (take_more locals i local l) ∙ map-append (λ (x : LocalId). x.0) (take i locals) (get_or locals i local ∷ []))

pub forgot_as : (old new : LocalTypes) (map now : LocalMap) (done others : List ℕ) (at : TypeRef) → Forgot old new map now done at → done ≡ others → Forgot old new map now others at
forgot_as old new map now done others at so e = subst (λ (ns : List ℕ). Forgot old new map now ns at) e so
