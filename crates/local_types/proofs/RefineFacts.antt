-- What maps have while one entry after another is refined.
use Rattle.std.proofs.Common.{◌≡◌, ℕ, ◌-◌, ◌<◌, ◌≤◌, List, [], ◌∷◌, length, get_or, drop, refl, sym, ap, subst, ◌∙◌, arith}
use Rattle.std.specs.Prelude.{Bool, true, false, ◌==◌, ◌||◌, All, IsTrue, map, if◌then◌else◌}
use Rattle.std.proofs.lemmas.Bool.Decides.{nat_tests}
use Rattle.std.proofs.lemmas.List.{drop_more, get_or-map, length-map}
use Rattle.std.proofs.lemmas.List.Elements.{All-nil}
use Rattle.luau_tree.specs.declared.names.LocalId.{LocalId}
use Rattle.type_arena.specs.Store.{has}
use Rattle.type_arena.specs.Term.{Term}
use Rattle.type_arena.specs.declared.node.TypeRef.{TypeRef}
use Rattle.type_normal.specs.Rows.{is_empty}
use Rattle.local_types.specs.Entries.{arenas_of, type_of, entry_of, with_entry, IsMap}
use Rattle.local_types.specs.Growing.{Grows, IsMadeOf}
use Rattle.local_types.specs.Locals.{said_meant, refs_said, said_of, refined_by, refining, some_empty}
use Rattle.local_types.specs.declared.node.LocalMap.{LocalMap}
use Rattle.local_types.specs.declared.types.LocalTypes.{LocalTypes}
use Rattle.local_types.proofs.GrowFacts.{AreMadeOf, entry_stays, grows_nothing, grows_then, made_one, made_two, made_then}

-- what is said of a local is among what is given
pub guard_is : (P : TypeRef → Type 0) (said : List (LocalId × TypeRef)) (k : ℕ) (d : LocalId × TypeRef) → k < length said → All P (refs_said said) → P (get_or said k d).1
guard_is P said k d inside all =
    let same : get_or (refs_said said) k d.1 ≡ (get_or said k d).1 = get_or-map (λ (e : LocalId × TypeRef). e.1) said k d d.1 inside in
    let long : length (refs_said said) ≡ length said = length-map said (λ (e : LocalId × TypeRef). e.1) in
    subst P same (all k d.1 (omega (arith, long, inside)))

-- the entries of some locals are refined
pub record RefinedSo (old new : LocalTypes) (map now : LocalMap) (given : List TypeRef) (done : List (LocalId × TypeRef)) (empty : Bool) : Type 0 where
  pub grows : Grows old new given
  pub stands : IsMap new now
  pub entries : (n : ℕ) → entry_of new now n ≡ refining (said_meant (type_of old) done) (entry_of old map) n
  pub emptied : empty ≡ some_empty (said_meant (type_of old) done) (entry_of old map)

pub refined_as : (old new : LocalTypes) (map now : LocalMap) (given : List TypeRef) (done others : List (LocalId × TypeRef)) (empty : Bool) → RefinedSo old new map now given done empty → done ≡ others → RefinedSo old new map now given others empty
refined_as old new map now given done others empty so e = subst (λ (es : List (LocalId × TypeRef)). RefinedSo old new map now given es empty) e so

pub refined_none : (a : LocalTypes) (map : LocalMap) (given : List TypeRef) → IsMap a map → RefinedSo a a map map given [] false
refined_none a map given is = record { grows = grows_nothing a given; stands = is; entries = λ n. refl; emptied = refl }

same_test : (a b : ℕ) → (a == b) ≡ (b == a)
same_test a b = grind (arith, nat_tests)

same_number : (a b : ℕ) → (a == b) ≡ true → a ≡ b
same_number a b e = grind (arith, nat_tests)

pick : (n local : ℕ) (guard other : Term) (f : ℕ → Term) → ◌≡◌ {A = Term} (if n == local then refined_by guard (f local) else refined_by other (f n)) (refined_by (if local == n then guard else other) (f n))
pick n local guard other f = by (n == local) refl
  where
    by : (b : Bool) → (n == local) ≡ b → ◌≡◌ {A = Term} (if b then refined_by guard (f local) else refined_by other (f n)) (refined_by (if local == n then guard else other) (f n))
    by true e = ap (λ (k : ℕ). refined_by guard (f k)) (sym (same_number n local e)) ∙ ap (λ (b : Bool). refined_by (if b then guard else other) (f n)) (sym (same_test local n ∙ e))
    by false e = ap (λ (b : Bool). refined_by (if b then guard else other) (f n)) (sym (same_test local n ∙ e))

-- what a type that is refined, and the type that says it, are made of
pub both_made : (old b : LocalTypes) (given : List TypeRef) (x guard : TypeRef) → Grows old b given → IsMadeOf b [] x → AreMadeOf old given (guard ∷ []) → AreMadeOf old given (x ∷ guard ∷ [])
both_made old b given x guard grows made said =
    made_two old given x guard
    (made_then old b given [] x grows (λ test within homes. All-nil (λ (r : TypeRef). IsTrue (test r.home))) made)
    (λ test within homes. said test within homes 0 guard (omega arith))

-- types grow while one more entry is refined
pub refined_grows : (old b c : LocalTypes) (given : List TypeRef) (x guard : TypeRef) → Grows old b given → IsMadeOf b [] x → AreMadeOf old given (guard ∷ []) → Grows b c (x ∷ guard ∷ []) → Grows old c given
refined_grows old b c given x guard first made said second = grows_then old b c given (x ∷ guard ∷ []) first second (both_made old b given x guard first made said)

pub put_grows : (old b c d : LocalTypes) (given : List TypeRef) (x guard at : TypeRef) → Grows old b given → IsMadeOf b [] x → AreMadeOf old given (guard ∷ []) → Grows b c (x ∷ guard ∷ [])
    → IsMadeOf b (x ∷ guard ∷ []) at → Grows c d (at ∷ []) → Grows old d given
put_grows old b c d given x guard at first made said second so third =
    grows_then old c d given (at ∷ []) (refined_grows old b c given x guard first made said second) third
    (made_one old given at (made_then old b given (x ∷ guard ∷ []) at first (both_made old b given x guard first made said) so))

pub said_made : (old : LocalTypes) (said : List (LocalId × TypeRef)) (k : ℕ) (d : LocalId × TypeRef) → k < length said → AreMadeOf old (refs_said said) ((get_or said k d).1 ∷ [])
said_made old said k d inside = made_one old (refs_said said) (get_or said k d).1 (λ test within homes. guard_is (λ (r : TypeRef). IsTrue (test r.home)) said k d inside homes)

-- what a refined entry means
refined_means : (old b : LocalTypes) (given : List TypeRef) (map : LocalMap) (local : ℕ) (x guard : TypeRef) (t : Term) → IsMap old map → Grows old b given → IsTrue (has (arenas_of old) guard) → type_of b x ≡ entry_of b map local
    → t ≡ refined_by (type_of b guard) (type_of b x) → t ≡ refined_by (type_of old guard) (entry_of old map local)
refined_means old b given map local x guard t is grows there entry means =
    means ∙ (λ i. refined_by (grows.kept guard there i) ((entry ∙ entry_stays old b given grows map is local) i))

-- one more entry is refined
pub refined_more : (old b c d : LocalTypes) (map now next : LocalMap) (given : List TypeRef) (done : List (LocalId × TypeRef)) (entry : LocalId × TypeRef) (x at : TypeRef) (empty flag : Bool)
    → IsMap old map → RefinedSo old b map now given done empty → IsTrue (has (arenas_of old) entry.1) → AreMadeOf old given (entry.1 ∷ [])
    → type_of b x ≡ entry_of b map entry.0.0 → IsMadeOf b [] x
    → type_of c at ≡ refined_by (type_of b entry.1) (type_of b x) → IsMadeOf b (x ∷ entry.1 ∷ []) at → Grows b c (x ∷ entry.1 ∷ [])
    → flag ≡ is_empty (type_of c at)
    → ((n : ℕ) → entry_of d next n ≡ with_entry entry.0.0 (type_of c at) (entry_of c now) n) → IsMap d next → Grows c d (at ∷ [])
    → RefinedSo old d map next given (entry ∷ done) (flag || empty)
refined_more old b c d map now next given done entry x at empty flag is so there said got made means at_made refines flags entries stands puts = record {
  grows = put_grows old b c d given x entry.1 at so.grows made said refines at_made puts;
  stands = stands;
  entries = λ n.
      entries n
      ∙ (λ i. if n == entry.0.0 then term i else (entry_stays b c (x ∷ entry.1 ∷ []) refines now so.stands n ∙ so.entries n) i)
      ∙ pick n entry.0.0 (type_of old entry.1) (said_of (said_meant (type_of old) done) n) (entry_of old map);
  emptied = (λ i. (flags ∙ ap is_empty term) i || so.emptied i);
}
  where
    term : type_of c at ≡ refined_by (type_of old entry.1) (entry_of old map entry.0.0)
    term = refined_means old b given map entry.0.0 x entry.1 (type_of c at) is so.grows there got means

-- one more of the list, from its end on
pub said_more : (said : List (LocalId × TypeRef)) (i : ℕ) (d : LocalId × TypeRef) → 0 < i → i ≤ length said → get_or said (i - 1) d ∷ drop i said ≡ drop (i - 1) said
said_more said i d some l =
    ap (λ (k : ℕ). get_or said (i - 1) d ∷ drop k said) (sym (omega (arith, some))) ∙ sym (drop_more said (i - 1) d (omega (arith, some, l)))

pub said_all : (said : List (LocalId × TypeRef)) (i : ℕ) → i ≤ 0 → drop i said ≡ said
said_all said i l = let none : i ≡ 0 = omega (arith, l) in ap (λ (k : ℕ). drop k said) none
