-- Entries that are made of pairs, one after another.
use Rattle.std.proofs.Common.{◌≡◌, ℕ, zero, suc, ◌+◌, ◌<◌, ◌≤◌, ◌==◌, Bool, true, false, List, [], ◌∷◌, ◌++◌, length, get_or, take, refl, sym, ap, ◌∙◌, subst, arith}
use Rattle.std.specs.Prelude.{IsTrue, All, Contains, if◌then◌else◌}
use Rattle.std.proofs.lemmas.Bool.{eqb-true}
use Rattle.std.proofs.lemmas.List.{take_more}
use Rattle.std.proofs.lemmas.List.Elements.{All-nil, All-cons, All-append}
use Rattle.luau_tree.specs.declared.names.LocalId.{LocalId}
use Rattle.type_arena.specs.Arena.{home_of, store_of}
use Rattle.type_arena.specs.Homes.{MayUse}
use Rattle.type_arena.specs.Meaning.{term_of}
use Rattle.type_arena.specs.Store.{has}
use Rattle.type_arena.specs.Term.{Term, never}
use Rattle.type_arena.specs.declared.arena.Arena.{Arena}
use Rattle.type_arena.specs.declared.node.TypeRef.{TypeRef}
use Rattle.type_normal.specs.Adds.{Adds}
use Rattle.type_normal.specs.Growing.{given_refs, IsClean}
use Rattle.type_normal.specs.Rows.{is_empty}
use Rattle.type_normal.proofs.AddsFacts.{there_kept}
use Rattle.type_ops.proofs.GrowFacts.{adds_nothing, adds_more, inner_may, clean_inner, all_clean_on, all_there_on}
use Rattle.type_arena.specs.Homes.{itself}
use Rattle.error_context.specs.Entries.{Entries, entry_or, refs_in, locals_in, AscendFrom, HaveTypes, is_cut}
use Rattle.error_context.specs.Pairs.{by_pairs, pair_locals, pair_refs}
use Rattle.error_context.specs.Steps.{step_term, takes, made_of}
use Rattle.error_context.specs.declared.pairs.Pair.{Pair}
use Rattle.error_context.specs.declared.steps.Step.{Step}
use Rattle.error_context.proofs.PairFacts.{behind, ascend_append, behind_append, differs, locals_append}
use Rattle.error_context.proofs.TermFacts.{empty_is_never, step_cut}

-- ---- lists

-- the first pairs ascend, up to before the next
pub ascend_take : (n : ℕ) (ps : List Pair) (i : ℕ) (d : Pair) → AscendFrom n (pair_locals ps) → i < length ps
    → AscendFrom n (pair_locals (take i ps)) × (behind n (pair_locals (take i ps)) ≤ (get_or ps i d).local.0)
ascend_take n [] i d a l = absurd (omega (arith, l))
ascend_take n (p ∷ ps) zero d a l = (tt, a.0)
ascend_take n (p ∷ ps) (suc i) d a l = let h = ascend_take (suc p.local.0) ps i d a.1 (omega (arith, l)) in ((a.0, h.0), h.1)

-- ---- one more pair

behind_up : (n : ℕ) (xs : List ℕ) → AscendFrom n xs → n ≤ behind n xs
behind_up n [] a = omega arith
behind_up n (x ∷ xs) a = let h = behind_up (suc x) xs a.1 in let k : n ≤ x = a.0 in omega arith

pub pairs_last : (made : TypeRef → TypeRef → Term) (n : ℕ) (ps : List Pair) (p : Pair) → AscendFrom n (pair_locals ps) → behind n (pair_locals ps) ≤ p.local.0
    → (l : ℕ) → (p.local.0 == l) ≡ true → by_pairs made (ps ++ p ∷ []) l ≡ made p.left p.right
pairs_last made n [] p a k l e = ap (λ (b : Bool). if b then made p.left p.right else never) e
pairs_last made n (q ∷ ps) p a k l e =
    let up = behind_up (suc q.local.0) (pair_locals ps) a.1 in
    let same : p.local.0 ≡ l = eqb-true p.local.0 l e in
    ap (λ (b : Bool). if b then made q.left q.right else by_pairs made (ps ++ p ∷ []) l) (differs q.local.0 l (λ d. omega (arith, d, same, up, k)))
    ∙ pairs_last made (suc q.local.0) ps p a.1 k l e

pub pairs_other : (made : TypeRef → TypeRef → Term) (ps : List Pair) (p : Pair) (l : ℕ) → (p.local.0 == l) ≡ false → by_pairs made (ps ++ p ∷ []) l ≡ by_pairs made ps l
pairs_other made [] p l e = ap (λ (b : Bool). if b then made p.left p.right else never) e
pairs_other made (q ∷ ps) p l e = ap (λ (t : Term). if q.local.0 == l then made q.left q.right else t) (pairs_other made ps p l e)

entry_last : (means : TypeRef → Term) (n : ℕ) (es : Entries) (e : LocalId × TypeRef) → AscendFrom n (locals_in es) → behind n (locals_in es) ≤ e.0.0
    → (l : ℕ) → (e.0.0 == l) ≡ true → entry_or never means (es ++ e ∷ []) l ≡ means e.1
entry_last means n [] e a k l d = ap (λ (b : Bool). if b then means e.1 else never) d
entry_last means n (q ∷ es) e a k l d =
    let up = behind_up (suc q.0.0) (locals_in es) a.1 in
    let same : e.0.0 ≡ l = eqb-true e.0.0 l d in
    ap (λ (b : Bool). if b then means q.1 else entry_or never means (es ++ e ∷ []) l) (differs q.0.0 l (λ f. omega (arith, f, same, up, k)))
    ∙ entry_last means (suc q.0.0) es e a.1 k l d

entry_other : (means : TypeRef → Term) (es : Entries) (e : LocalId × TypeRef) (l : ℕ) → (e.0.0 == l) ≡ false → entry_or never means (es ++ e ∷ []) l ≡ entry_or never means es l
entry_other means [] e l d = ap (λ (b : Bool). if b then means e.1 else never) d
entry_other means (q ∷ es) e l d = ap (λ (t : Term). if q.0.0 == l then means q.1 else t) (entry_other means es e l d)

entry_none : (means : TypeRef → Term) (n : ℕ) (es : Entries) (m : ℕ) → AscendFrom n (locals_in es) → behind n (locals_in es) ≤ m
    → (l : ℕ) → (m == l) ≡ true → entry_or never means es l ≡ never
entry_none means n [] m a k l d = refl
entry_none means n (q ∷ es) m a k l d =
    let up = behind_up (suc q.0.0) (locals_in es) a.1 in
    let same : m ≡ l = eqb-true m l d in
    ap (λ (b : Bool). if b then means q.1 else entry_or never means es l) (differs q.0.0 l (λ f. omega (arith, f, same, up, k)))
    ∙ entry_none means (suc q.0.0) es m a.1 k l d

-- entries mean the same where their references do
pub entry_kept : (absent : Term) (means more : TypeRef → Term) (P : TypeRef → Type 0) → ((at : TypeRef) → P at → more at ≡ means at) → (es : Entries) → All P (refs_in es)
    → (l : ℕ) → entry_or absent more es l ≡ entry_or absent means es l
entry_kept absent means more P same [] all l = refl
entry_kept absent means more P same (e ∷ es) all l =
    let here : more e.1 ≡ means e.1 = same e.1 (all zero e.1 (omega arith)) in
    let rest : entry_or absent more es l ≡ entry_or absent means es l = entry_kept absent means more P same es (λ k d i. all (suc k) d (omega (arith, i))) l in
    λ i. if e.0.0 == l then here i else rest i

pub refs_append : (es : Entries) (e : LocalId × TypeRef) → refs_in (es ++ e ∷ []) ≡ refs_in es ++ e.1 ∷ []
refs_append [] e = refl
refs_append (q ∷ es) e = ap (λ (rs : List TypeRef). q.1 ∷ rs) (refs_append es e)

pub entry_locals_append : (es : Entries) (e : LocalId × TypeRef) → locals_in (es ++ e ∷ []) ≡ locals_in es ++ e.0.0 ∷ []
entry_locals_append [] e = refl
entry_locals_append (q ∷ es) e = ap (λ (ls : List ℕ). q.0.0 ∷ ls) (entry_locals_append es e)

-- the references of a pair are among those of the pairs
inside_two : {X : Type 0} (x y : X) (xs : List X) (z : X) → Contains xs z → Contains (x ∷ y ∷ xs) z
inside_two x y xs z h = (suc (suc h.0), (let k = h.1 in omega (arith, k)), h.2)

pub pair_in : (ps : List Pair) (i : ℕ) (d : Pair) → i < length ps
    → (at : TypeRef) → Contains ((get_or ps i d).left ∷ (get_or ps i d).right ∷ []) at → Contains (pair_refs ps) at
pair_in [] i d l at h = absurd (omega (arith, l))
pair_in (p ∷ ps) zero d l at (zero, k, e) = (zero, omega arith, e)
pair_in (p ∷ ps) zero d l at (suc zero, k, e) = (suc zero, omega arith, e)
pair_in (p ∷ ps) zero d l at (suc (suc j), k, e) = absurd (omega (arith, k))
pair_in (p ∷ ps) (suc i) d l at h = inside_two p.left p.right (pair_refs ps) at (pair_in ps i d (omega (arith, l)) at h)

-- ---- the loop

-- what stands after so many pairs
pub record Made (step : Step) (old now : Arena) (pairs : List Pair) (made : Entries) (i : ℕ) : Type 0 where
  pub adds : Adds old now (given_refs (pair_refs pairs)) []
  pub entries : (l : ℕ) → entry_or never (term_of (store_of now)) made l ≡ by_pairs (made_of step (term_of (store_of old))) (take i pairs) l
  pub there : All (λ at. IsTrue (has (store_of now) at)) (refs_in made)
  pub cut : HaveTypes now is_cut (refs_in made)
  pub full : All (λ at. is_empty (term_of (store_of now) at) ≡ false) (refs_in made)
  pub clean : All (IsClean old now (given_refs (pair_refs pairs))) (refs_in made)
  pub sorted : AscendFrom 0 (locals_in made)
  pub below : behind 0 (locals_in made) ≤ behind 0 (pair_locals (take i pairs))

pub made_starts : (step : Step) (arena : Arena) (pairs : List Pair) → Made step arena arena pairs [] 0
made_starts step arena pairs = record {
  adds = adds_nothing arena (given_refs (pair_refs pairs));
  entries = λ l. refl;
  there = All-nil (λ at. IsTrue (has (store_of arena) at));
  cut = All-nil (λ at. is_cut (term_of (store_of arena) at) ≡ true);
  full = All-nil (λ at. is_empty (term_of (store_of arena) at) ≡ false);
  clean = All-nil (IsClean arena arena (given_refs (pair_refs pairs)));
  sorted = tt;
  below = omega arith;
}

-- what a step has made of a pair
pub record Stepped (step : Step) (now next : Arena) (p : Pair) (at : TypeRef) : Type 0 where
  pub means : term_of (store_of next) at ≡ step_term step (term_of (store_of now) p.left) (term_of (store_of now) p.right)
  pub there : IsTrue (has (store_of next) at)
  pub clean : IsClean now next (given_refs (p.left ∷ p.right ∷ [])) at
  pub adds : Adds now next (given_refs (p.left ∷ p.right ∷ [])) []

-- what holds of the references of all pairs holds of those of one
pub side_has : (P : TypeRef → Type 0) (pairs : List Pair) (i : ℕ) (d : Pair) → i < length pairs → All P (pair_refs pairs)
    → (at : TypeRef) → Contains ((get_or pairs i d).left ∷ (get_or pairs i d).right ∷ []) at → P at
side_has P pairs i d l all at inside =
    let h = pair_in pairs i d l at inside in
    subst P h.2 (all h.0 at h.1)

-- a pair that stands for none
abbrev pub no_pair : Pair
no_pair = record { local = record { 0 = 0 }; left = record { home = 0; id = 0 }; right = record { home = 0; id = 0 } }

pub left_in : (x y : TypeRef) → Contains (x ∷ y ∷ []) x
left_in x y = (zero, omega arith, refl)

pub right_in : (x y : TypeRef) → Contains (x ∷ y ∷ []) y
right_in x y = (suc zero, omega arith, refl)

-- the references of the next pair, before its step
pub made_there : (step : Step) (old now : Arena) (pairs : List Pair) (made : Entries) (i : ℕ) (d : Pair) → i < length pairs → Made step old now pairs made i
    → All (λ at. IsTrue (has (store_of old) at)) (pair_refs pairs) → (at : TypeRef) → Contains ((get_or pairs i d).left ∷ (get_or pairs i d).right ∷ []) at → IsTrue (has (store_of now) at)
made_there step old now pairs made i d l m there at inside =
    there_kept (store_of old) (store_of now) at m.adds.keeps (side_has (λ r. IsTrue (has (store_of old) r)) pairs i d l there at inside)

pub made_taken : (step : Step) (old now : Arena) (pairs : List Pair) (made : Entries) (i : ℕ) (d : Pair) → i < length pairs → Made step old now pairs made i
    → All (λ at. IsTrue (has (store_of old) at)) (pair_refs pairs) → All (λ at. takes step (term_of (store_of old) at) ≡ true) (pair_refs pairs)
    → (at : TypeRef) → Contains ((get_or pairs i d).left ∷ (get_or pairs i d).right ∷ []) at → takes step (term_of (store_of now) at) ≡ true
made_taken step old now pairs made i d l m there taken at inside =
    ap (takes step) (m.adds.kept at (side_has (λ r. IsTrue (has (store_of old) r)) pairs i d l there at inside))
    ∙ side_has (λ r. takes step (term_of (store_of old) r) ≡ true) pairs i d l taken at inside

-- a step that fails
pub made_failed : (step : Step) (old now next : Arena) (pairs : List Pair) (made : Entries) (i : ℕ) (d : Pair) → i < length pairs → Made step old now pairs made i
    → All (λ at. IsTrue (has (store_of old) at)) (pair_refs pairs) → Adds now next (given_refs ((get_or pairs i d).left ∷ (get_or pairs i d).right ∷ [])) []
    → Adds old next (given_refs (pair_refs pairs)) []
made_failed step old now next pairs made i d l m there adds =
    adds_more old now next (given_refs (pair_refs pairs)) (given_refs ((get_or pairs i d).left ∷ (get_or pairs i d).right ∷ [])) [] [] m.adds adds
    (inner_may old now (pair_refs pairs) ((get_or pairs i d).left ∷ (get_or pairs i d).right ∷ []) [] m.adds
    (λ r inside. side_has (λ at. IsTrue (has (store_of old) at)) pairs i d l there r inside) (λ r inside. (r, pair_in pairs i d l r inside, itself)))

-- what holds after one more pair, whether it has an entry or not
module _ (step : Step) (old now next : Arena) (pairs : List Pair) (made : Entries) (i : ℕ) (d : Pair) (at : TypeRef)
    (l : i < length pairs) (there : All (λ at. IsTrue (has (store_of old) at)) (pair_refs pairs))
    (taken : All (λ at. takes step (term_of (store_of old) at) ≡ true) (pair_refs pairs)) (sorted : AscendFrom 0 (pair_locals pairs))
    (m : Made step old now pairs made i) (s : Stepped step now next (get_or pairs i d) at) where
  abbrev p : Pair
  p = get_or pairs i d

  is_there : (r : TypeRef) → Contains (p.left ∷ p.right ∷ []) r → IsTrue (has (store_of old) r)
  is_there r inside = side_has (λ at. IsTrue (has (store_of old) at)) pairs i d l there r inside

  is_taken : (r : TypeRef) → Contains (p.left ∷ p.right ∷ []) r → takes step (term_of (store_of old) r) ≡ true
  is_taken r inside = side_has (λ at. takes step (term_of (store_of old) at) ≡ true) pairs i d l taken r inside

  may : (home : ℕ) → MayUse (store_of now) (home_of now) (given_refs (p.left ∷ p.right ∷ [])) home → MayUse (store_of old) (home_of old) (given_refs (pair_refs pairs)) home
  may = inner_may old now (pair_refs pairs) (p.left ∷ p.right ∷ []) [] m.adds is_there (λ r inside. (r, pair_in pairs i d l r inside, itself))

  pub more_adds : Adds old next (given_refs (pair_refs pairs)) []
  more_adds = adds_more old now next (given_refs (pair_refs pairs)) (given_refs (p.left ∷ p.right ∷ [])) [] [] m.adds s.adds may

  more_there : All (λ at. IsTrue (has (store_of next) at)) (refs_in made)
  more_there = all_there_on (store_of now) (store_of next) (refs_in made) m.there s.adds.keeps

  kept_full : All (λ at. is_empty (term_of (store_of next) at) ≡ false) (refs_in made)
  kept_full = λ k e b. ap is_empty (s.adds.kept (get_or (refs_in made) k e) (m.there k e b)) ∙ m.full k e b

  kept_cut : HaveTypes next is_cut (refs_in made)
  kept_cut = λ k e b. ap is_cut (s.adds.kept (get_or (refs_in made) k e) (m.there k e b)) ∙ m.cut k e b

  more_clean : All (IsClean old next (given_refs (pair_refs pairs))) (refs_in made)
  more_clean = all_clean_on old now next (given_refs (pair_refs pairs)) (refs_in made) m.clean m.there s.adds.keeps

  same_entries : (x : ℕ) → entry_or never (term_of (store_of next)) made x ≡ by_pairs (made_of step (term_of (store_of old))) (take i pairs) x
  same_entries x = entry_kept never (term_of (store_of now)) (term_of (store_of next)) (λ r. IsTrue (has (store_of now) r)) s.adds.kept made m.there x ∙ m.entries x

  here : term_of (store_of next) at ≡ made_of step (term_of (store_of old)) p.left p.right
  here =
      let left : term_of (store_of now) p.left ≡ term_of (store_of old) p.left = m.adds.kept p.left (is_there p.left (left_in p.left p.right)) in
      let right : term_of (store_of now) p.right ≡ term_of (store_of old) p.right = m.adds.kept p.right (is_there p.right (right_in p.left p.right)) in
      s.means ∙ (λ i. step_term step (left i) (right i))

  new_cut : is_cut (term_of (store_of next) at) ≡ true
  new_cut =
      ap is_cut here
      ∙ step_cut step (term_of (store_of old) p.left) (term_of (store_of old) p.right) (is_taken p.left (left_in p.left p.right)) (is_taken p.right (right_in p.left p.right))

  order : AscendFrom 0 (pair_locals (take i pairs)) × (behind 0 (pair_locals (take i pairs)) ≤ p.local.0)
  order = ascend_take 0 pairs i d sorted l

  one_more : take (i + 1) pairs ≡ take i pairs ++ p ∷ []
  one_more = take_more pairs i d l

  later : behind 0 (pair_locals (take (i + 1) pairs)) ≡ suc p.local.0
  later = ap (λ (ps : List Pair). behind 0 (pair_locals ps)) one_more ∙ ap (behind 0) (locals_append (take i pairs) p) ∙ behind_append 0 (pair_locals (take i pairs)) p.local.0

  low : behind 0 (locals_in made) ≤ p.local.0
  low = let a = m.below in let b = order.1 in omega (arith, a, b)

  by_more : (x : ℕ) → by_pairs (made_of step (term_of (store_of old))) (take (i + 1) pairs) x ≡ by_pairs (made_of step (term_of (store_of old))) (take i pairs ++ p ∷ []) x
  by_more x = ap (λ (ps : List Pair). by_pairs (made_of step (term_of (store_of old))) ps x) one_more

  pub made_empty : is_empty (term_of (store_of next) at) ≡ true → Made step old next pairs made (i + 1)
  made_empty none = record {
    adds = more_adds;
    entries = λ x. by_local x (p.local.0 == x) refl;
    there = more_there;
    cut = kept_cut;
    full = kept_full;
    clean = more_clean;
    sorted = m.sorted;
    below = (let a = low in omega (arith, a, later));
  }
    where
      by_local : (x : ℕ) (t : Bool) → (p.local.0 == x) ≡ t → entry_or never (term_of (store_of next)) made x ≡ by_pairs (made_of step (term_of (store_of old))) (take (i + 1) pairs) x
      by_local x true e =
          entry_none (term_of (store_of next)) 0 made p.local.0 m.sorted low x e
          ∙ sym (empty_is_never (term_of (store_of next) at) none) ∙ here
          ∙ sym (pairs_last (made_of step (term_of (store_of old))) 0 (take i pairs) p order.0 order.1 x e) ∙ sym (by_more x)
      by_local x false e = same_entries x ∙ sym (pairs_other (made_of step (term_of (store_of old))) (take i pairs) p x e) ∙ sym (by_more x)

  pub made_full : is_empty (term_of (store_of next) at) ≡ false → Made step old next pairs (made ++ (p.local, at) ∷ []) (i + 1)
  made_full some = record {
    adds = more_adds;
    entries = λ x. by_local x (p.local.0 == x) refl;
    there = onto (λ at. IsTrue (has (store_of next) at)) more_there s.there;
    cut = onto (λ at. is_cut (term_of (store_of next) at) ≡ true) kept_cut new_cut;
    full = onto (λ at. is_empty (term_of (store_of next) at) ≡ false) kept_full some;
    clean = onto (IsClean old next (given_refs (pair_refs pairs))) more_clean (clean_inner old now next (given_refs (pair_refs pairs)) (given_refs (p.left ∷ p.right ∷ [])) at may s.clean);
    sorted = subst (AscendFrom 0) (sym (entry_locals_append made (p.local, at))) (ascend_append 0 (locals_in made) (p.local.0 ∷ []) m.sorted (low, tt));
    below = (let a = ap (behind 0) (entry_locals_append made (p.local, at)) ∙ behind_append 0 (locals_in made) p.local.0 in omega (arith, a, later));
  }
    where
      onto : (P : TypeRef → Type 0) → All P (refs_in made) → P at → All P (refs_in (made ++ (p.local, at) ∷ []))
      onto P all one = subst (All P) (sym (refs_append made (p.local, at))) (All-append P (refs_in made) (at ∷ []) all (All-cons P at [] one (All-nil P)))

      by_local : (x : ℕ) (t : Bool) → (p.local.0 == x) ≡ t
          → entry_or never (term_of (store_of next)) (made ++ (p.local, at) ∷ []) x ≡ by_pairs (made_of step (term_of (store_of old))) (take (i + 1) pairs) x
      by_local x true e =
          entry_last (term_of (store_of next)) 0 made (p.local, at) m.sorted low x e ∙ here
          ∙ sym (pairs_last (made_of step (term_of (store_of old))) 0 (take i pairs) p order.0 order.1 x e) ∙ sym (by_more x)
      by_local x false e =
          entry_other (term_of (store_of next)) made (p.local, at) x e ∙ same_entries x
          ∙ sym (pairs_other (made_of step (term_of (store_of old))) (take i pairs) p x e) ∙ sym (by_more x)
