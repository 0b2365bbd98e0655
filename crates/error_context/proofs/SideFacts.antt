-- What entries that are made of one list, or of two, have for each local, and which homes they reach.
use Rattle.std.proofs.Common.{◌≡◌, ℕ, zero, suc, ◌<◌, ◌==◌, Bool, true, false, List, [], ◌∷◌, ◌++◌, get_or, refl, sym, ap, ◌∙◌, subst, arith}
use Rattle.std.specs.Prelude.{IsTrue, All, Contains, if◌then◌else◌}
use Rattle.std.proofs.lemmas.List.Elements.{All-nil, All-cons, Contains-get_or, Contains-append_left, Contains-append_right}
use Rattle.type_arena.specs.Arena.{home_of, store_of}
use Rattle.type_arena.specs.Homes.{Given, MayUse}
use Rattle.type_arena.specs.Meaning.{term_of}
use Rattle.type_arena.specs.Store.{has}
use Rattle.type_arena.specs.Term.{Term, never}
use Rattle.type_arena.specs.declared.arena.Arena.{Arena}
use Rattle.type_arena.specs.declared.node.TypeRef.{TypeRef}
use Rattle.type_normal.specs.Adds.{Adds}
use Rattle.type_normal.specs.Growing.{given_refs, IsClean}
use Rattle.type_normal.specs.Rows.{is_empty, is_normal}
use Rattle.type_normal.specs.Kinds.{unknown}
use Rattle.type_ops.proofs.GrowFacts.{adds_more, clean_inner, clean_given, all_there_on}
use Rattle.error_context.specs.Entries.{Entries, entry_or, context_of, guard_of, refs_in, locals_in, AreThere, HaveTypes, is_cut, IsGuard, IsContext}
use Rattle.error_context.specs.Pairs.{ref_or, sides_or, by_pairs, pair_locals, pair_refs, alone, AreAligned}
use Rattle.error_context.specs.Steps.{step_term, takes, made_of}
use Rattle.error_context.specs.declared.pairs.Pair.{Pair}
use Rattle.error_context.specs.declared.steps.Step.{Step}
use Rattle.error_context.proofs.GrowSteps.{may_clean, adds_wider, clean_wider}
use Rattle.error_context.proofs.MadeFacts.{entry_kept}

-- ---- entries under a function

pub entry_under : (f : Term → Term) (absent : Term) (means : TypeRef → Term) (es : Entries) (l : ℕ) → entry_or (f absent) (λ at. f (means at)) es l ≡ f (entry_or absent means es l)
entry_under f absent means [] l = refl
entry_under f absent means (e ∷ es) l = go (e.0.0 == l) (entry_under f absent means es l)
  where
    go : (t : Bool) → entry_or (f absent) (λ at. f (means at)) es l ≡ f (entry_or absent means es l)
        → (if t then f (means e.1) else entry_or (f absent) (λ at. f (means at)) es l) ≡ f (if t then means e.1 else entry_or absent means es l)
    go true rest = refl
    go false rest = rest

-- what passes a test in each entry and in what is there without one passes it for each local
pub entry_passes : (P : Term → Type 0) (absent : Term) (means : TypeRef → Term) → P absent → (es : Entries) → All (λ at. P (means at)) (refs_in es) → (l : ℕ) → P (entry_or absent means es l)
entry_passes P absent means none [] all l = none
entry_passes P absent means none (e ∷ es) all l = go (e.0.0 == l) (entry_passes P absent means none es (λ k d i. all (suc k) d (omega (arith, i))) l)
  where
    go : (t : Bool) → P (entry_or absent means es l) → P (if t then means e.1 else entry_or absent means es l)
    go true rest = all zero e.1 (omega arith)
    go false rest = rest

pub context_cut : (arena : Arena) (es : Entries) → IsContext arena es → (l : ℕ) → is_cut (context_of arena es l) ≡ true
context_cut arena es c l = entry_passes (λ t. is_cut t ≡ true) never (term_of (store_of arena)) refl es c.cut l

-- ---- contexts while the arena grows

pub context_kept : (a b : Arena) (es : Entries) → AreThere a (refs_in es) → ((at : TypeRef) → IsTrue (has (store_of a) at) → term_of (store_of b) at ≡ term_of (store_of a) at)
    → (l : ℕ) → context_of b es l ≡ context_of a es l
context_kept a b es there kept l = entry_kept never (term_of (store_of a)) (term_of (store_of b)) (λ at. IsTrue (has (store_of a) at)) kept es there l

pub guard_kept : (a b : Arena) (es : Entries) → AreThere a (refs_in es) → ((at : TypeRef) → IsTrue (has (store_of a) at) → term_of (store_of b) at ≡ term_of (store_of a) at)
    → (l : ℕ) → guard_of b es l ≡ guard_of a es l
guard_kept a b es there kept l = entry_kept unknown (term_of (store_of a)) (term_of (store_of b)) (λ at. IsTrue (has (store_of a) at)) kept es there l

pub types_kept : (a b : Arena) (test : Term → Bool) (t : Bool) (refs : List TypeRef) → AreThere a refs
    → ((at : TypeRef) → IsTrue (has (store_of a) at) → term_of (store_of b) at ≡ term_of (store_of a) at)
    → All (λ at. test (term_of (store_of a) at) ≡ t) refs → All (λ at. test (term_of (store_of b) at) ≡ t) refs
types_kept a b test t refs there kept all = λ k d i. ap test (kept (get_or refs k d) (there k d i)) ∙ all k d i

pub context_stays : (a b : Arena) (given : Given) (xs : List TypeRef) (es : Entries) → Adds a b given xs → IsContext a es → IsContext b es
context_stays a b given xs es adds c = record {
  sorted = c.sorted;
  there = all_there_on (store_of a) (store_of b) (refs_in es) c.there adds.keeps;
  cut = types_kept a b is_cut true (refs_in es) c.there adds.kept c.cut;
  full = types_kept a b is_empty false (refs_in es) c.there adds.kept c.full;
}

pub guard_stays : (a b : Arena) (given : Given) (xs : List TypeRef) (es : Entries) → Adds a b given xs → IsGuard a es → IsGuard b es
guard_stays a b given xs es adds g = record {
  sorted = g.sorted;
  there = all_there_on (store_of a) (store_of b) (refs_in es) g.there adds.keeps;
  normal = types_kept a b is_normal true (refs_in es) g.there adds.kept g.normal;
}

-- ---- one list

pub alone_entries : (made : TypeRef → TypeRef → Term) (es : Entries) (l : ℕ) → by_pairs made (alone es) l ≡ entry_or never (λ at. made at at) es l
alone_entries made [] l = refl
alone_entries made (e ∷ es) l = ap (λ (t : Term). if e.0.0 == l then made e.1 e.1 else t) (alone_entries made es l)

pub alone_locals : (es : Entries) → pair_locals (alone es) ≡ locals_in es
alone_locals [] = refl
alone_locals (e ∷ es) = ap (λ (ls : List ℕ). e.0.0 ∷ ls) (alone_locals es)

pub alone_all_refs : (P : TypeRef → Type 0) (es : Entries) → All P (refs_in es) → All P (pair_refs (alone es))
alone_all_refs P [] all = All-nil P
alone_all_refs P (e ∷ es) all =
    let here : P e.1 = all zero e.1 (omega arith) in
    All-cons P e.1 (e.1 ∷ pair_refs (alone es)) here (All-cons P e.1 (pair_refs (alone es)) here (alone_all_refs P es (λ k d i. all (suc k) d (omega (arith, i)))))

pub from_all : {X : Type 0} (P : X → Type 0) (xs : List X) → All P xs → (x : X) → Contains xs x → P x
from_all P xs all x inside = subst P inside.2 (all inside.0 x inside.1)

pub alone_given : (es : Entries) (at : TypeRef) → Contains (pair_refs (alone es)) at → Contains (refs_in es) at
alone_given es at inside = from_all (Contains (refs_in es)) (pair_refs (alone es)) (alone_all_refs (Contains (refs_in es)) es (λ k d i. Contains-get_or (refs_in es) k d i)) at inside

-- ---- two lists

abbrev chosen : TypeRef × TypeRef → TypeRef × TypeRef → Bool → TypeRef × TypeRef
chosen first second t = if t then first else second

by_sides : (made : TypeRef → TypeRef → Term) (absent : TypeRef) → made absent absent ≡ never → (ps : List Pair) (l : ℕ)
    → by_pairs made ps l ≡ made (sides_or (absent, absent) ps l).0 (sides_or (absent, absent) ps l).1
by_sides made absent none [] l = sym none
by_sides made absent none (p ∷ ps) l = go (p.local.0 == l) (by_sides made absent none ps l)
  where
    go : (t : Bool) → by_pairs made ps l ≡ made (sides_or (absent, absent) ps l).0 (sides_or (absent, absent) ps l).1
        → (if t then made p.left p.right else by_pairs made ps l)
        ≡ made (chosen (p.left, p.right) (sides_or (absent, absent) ps l) t).0 (chosen (p.left, p.right) (sides_or (absent, absent) ps l) t).1
    go true rest = refl
    go false rest = rest

ref_means : (means : TypeRef → Term) (absent : TypeRef) → means absent ≡ never → (es : Entries) (l : ℕ) → means (ref_or absent es l) ≡ entry_or never means es l
ref_means means absent none [] l = none
ref_means means absent none (e ∷ es) l = go (e.0.0 == l) (ref_means means absent none es l)
  where
    go : (t : Bool) → means (ref_or absent es l) ≡ entry_or never means es l → means (if t then e.1 else ref_or absent es l) ≡ (if t then means e.1 else entry_or never means es l)
    go true rest = refl
    go false rest = rest

pub aligned_entries : (step : Step) (arena : Arena) (absent : TypeRef) (a b : Entries) (ps : List Pair) → AreAligned absent a b ps → term_of (store_of arena) absent ≡ never
    → step_term step never never ≡ never → (l : ℕ) → by_pairs (made_of step (term_of (store_of arena))) ps l ≡ step_term step (context_of arena a l) (context_of arena b l)
aligned_entries step arena absent a b ps both none empty l =
    by_sides (made_of step (term_of (store_of arena))) absent ((λ i. step_term step (none i) (none i)) ∙ empty) ps l
    ∙ (λ i. made_of step (term_of (store_of arena)) (both.sides l i).0 (both.sides l i).1)
    ∙ (λ i. step_term step (ref_means (term_of (store_of arena)) absent none a l i) (ref_means (term_of (store_of arena)) absent none b l i))

pair_all : (P : TypeRef → Type 0) (ps : List Pair) → All (λ p. P p.left) ps → All (λ p. P p.right) ps → All P (pair_refs ps)
pair_all P [] l r = All-nil P
pair_all P (p ∷ ps) l r =
    All-cons P p.left (p.right ∷ pair_refs ps) (l zero p (omega arith))
    (All-cons P p.right (pair_refs ps) (r zero p (omega arith)) (pair_all P ps (λ k d i. l (suc k) d (omega (arith, i))) (λ k d i. r (suc k) d (omega (arith, i)))))

pub aligned_all : (P : TypeRef → Type 0) (absent : TypeRef) (a b : Entries) (ps : List Pair) → AreAligned absent a b ps → P absent → All P (refs_in a) → All P (refs_in b) → All P (pair_refs ps)
aligned_all P absent a b ps both none left right =
    pair_all P ps
    (λ k d i. from_all P (absent ∷ refs_in a) (All-cons P absent (refs_in a) none left) (get_or ps k d).left (both.lefts k d i))
    (λ k d i. from_all P (absent ∷ refs_in b) (All-cons P absent (refs_in b) none right) (get_or ps k d).right (both.rights k d i))

-- the same, of lists that are said to be these
pub aligned_of : (absent : TypeRef) (a a2 b b2 : Entries) (ps ps2 : List Pair) → a2 ≡ a → b2 ≡ b → ps2 ≡ ps → AreAligned absent a2 b2 ps → AreAligned absent a b ps2
aligned_of absent a a2 b b2 ps ps2 e f g both =
    subst (λ (x : Entries). AreAligned absent x b ps2) e
    (subst (λ (y : Entries). AreAligned absent a2 y ps2) f
    (subst (λ (z : List Pair). AreAligned absent a2 b2 z) (sym g) both))

-- ---- homes

pub no_refs : (at : TypeRef) (more : List TypeRef) → Contains [] at → Contains more at
no_refs at more h = let l : h.0 < 0 = h.1 in absurd (omega arith)

-- what is given is clean
pub given_clean : (a b : Arena) (given refs xs : List TypeRef) → Adds a b (given_refs given) xs → AreThere a refs → ((at : TypeRef) → Contains refs at → Contains given at)
    → All (IsClean a b (given_refs given)) refs
given_clean a b given refs xs adds there inside = λ k d i. clean_given a b given xs (get_or refs k d) adds (there k d i) (inside (get_or refs k d) (Contains-get_or refs k d i))

-- what may be used of clean references may be used
pub all_may : (a b : Arena) (given refs : List TypeRef) → All (IsClean a b (given_refs given)) refs → home_of b ≡ home_of a
    → (home : ℕ) → MayUse (store_of b) (home_of b) (given_refs refs) home → MayUse (store_of a) (home_of a) (given_refs given) home
all_may a b given refs clean same home may = may_clean a b (given_refs given) refs (λ at inside. from_all (IsClean a b (given_refs given)) refs clean at inside) same home may

-- a call after another, which is given what is clean
pub after_adds : (a b c : Arena) (given inner xs ys : List TypeRef) → Adds a b (given_refs given) xs → All (IsClean a b (given_refs given)) inner → Adds b c (given_refs inner) ys
    → Adds a c (given_refs given) []
after_adds a b c given inner xs ys first clean second =
    adds_more a b c (given_refs given) (given_refs inner) xs ys first second (all_may a b given inner clean first.home)

pub after_clean : (a b c : Arena) (given inner refs xs : List TypeRef) → Adds a b (given_refs given) xs → All (IsClean a b (given_refs given)) inner → All (IsClean b c (given_refs inner)) refs
    → All (IsClean a c (given_refs given)) refs
after_clean a b c given inner refs xs first clean second =
    λ k d i. clean_inner a b c (given_refs given) (given_refs inner) (get_or refs k d) (all_may a b given inner clean first.home) (second k d i)

pub all_wider : (a b : Arena) (refs more ats : List TypeRef) → ((at : TypeRef) → Contains refs at → Contains more at) → All (IsClean a b (given_refs refs)) ats → All (IsClean a b (given_refs more)) ats
all_wider a b refs more ats from clean = λ k d i. clean_wider a b refs more (get_or ats k d) from (clean k d i)

-- the references of two lists, beside one that is made of nothing
module _ (old now : Arena) (absent : TypeRef) (a b : Entries) (ps : List Pair) (xs : List TypeRef)
    (adds : Adds old now (given_refs []) xs) (left : IsContext old a) (right : IsContext old b) where
  abbrev given : List TypeRef
  given = refs_in a ++ refs_in b

  pub sides_add : Adds old now (given_refs given) []
  sides_add = adds_wider old now [] given xs (λ at inside. no_refs at given inside) adds

  pub sides_clean : AreAligned absent a b ps → IsClean old now (given_refs []) absent → All (IsClean old now (given_refs given)) (pair_refs ps)
  sides_clean both clean =
      aligned_all (IsClean old now (given_refs given)) absent a b ps both (clean_wider old now [] given absent (λ at inside. no_refs at given inside) clean)
      (given_clean old now given (refs_in a) [] sides_add left.there (λ at inside. Contains-append_left (refs_in a) (refs_in b) at inside))
      (given_clean old now given (refs_in b) [] sides_add right.there (λ at inside. Contains-append_right (refs_in a) (refs_in b) at inside))

  pub sides_there : AreAligned absent a b ps → IsTrue (has (store_of now) absent) → AreThere now (pair_refs ps)
  sides_there both there =
      aligned_all (λ at. IsTrue (has (store_of now) at)) absent a b ps both there
      (all_there_on (store_of old) (store_of now) (refs_in a) left.there adds.keeps) (all_there_on (store_of old) (store_of now) (refs_in b) right.there adds.keeps)

  pub sides_taken : (step : Step) → AreAligned absent a b ps → term_of (store_of now) absent ≡ never → ((t : Term) → is_cut t ≡ true → takes step t ≡ true) → HaveTypes now (takes step) (pair_refs ps)
  sides_taken step both none taken =
      aligned_all (λ at. takes step (term_of (store_of now) at) ≡ true) absent a b ps both (ap (takes step) none ∙ taken never refl)
      (λ k d i. taken _ (types_kept old now is_cut true (refs_in a) left.there adds.kept left.cut k d i))
      (λ k d i. taken _ (types_kept old now is_cut true (refs_in b) right.there adds.kept right.cut k d i))

  pub sides_entries : (step : Step) → AreAligned absent a b ps → term_of (store_of now) absent ≡ never → step_term step never never ≡ never
      → (l : ℕ) → by_pairs (made_of step (term_of (store_of now))) ps l ≡ step_term step (context_of old a l) (context_of old b l)
  sides_entries step both none empty l =
      aligned_entries step now absent a b ps both none empty l
      ∙ (λ i. step_term step (context_kept old now a left.there adds.kept l i) (context_kept old now b right.there adds.kept l i))
