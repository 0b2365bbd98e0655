-- Lists of sets and of contexts, one after another.
use Rattle.std.proofs.Common.{◌≡◌, ℕ, zero, suc, ◌+◌, ◌<◌, ◌≤◌, List, [], ◌∷◌, ◌++◌, length, get_or, take, refl, sym, ap, ◌∙◌, subst, arith, add-one}
use Rattle.std.specs.Prelude.{true, false, All, IsTrue, map}
use Rattle.std.proofs.lemmas.List.{map-append, map_more, get_or_default}
use Rattle.std.proofs.lemmas.List.Elements.{All-nil, All-cons, All-push, All-head, All-tail}
use Rattle.type_arena.specs.Arena.{store_of}
use Rattle.type_arena.specs.Store.{has}
use Rattle.type_arena.specs.Term.{Term, never}
use Rattle.type_arena.specs.declared.node.TypeRef.{TypeRef}
use Rattle.type_normal.specs.Operations.{meet}
use Rattle.type_normal.specs.Rows.{is_empty}
use Rattle.error_context.specs.Entries.{is_cut}
use Rattle.error_context.specs.declared.context.Context.{Context}
use Rattle.report_rules.specs.Context.{Context as PlainContext, only_for}
use Rattle.report_rules.specs.Rules.{Rules}
use Rattle.report_work.specs.Moves.{zipped, past_none, parts_of, first_of, rest_of}
use Rattle.context_types.specs.Confined.{IsMade}
use Rattle.context_types.specs.Lists.{each_term, refs_each, no_context, first_ref}
use Rattle.context_types.specs.Standing.{Grows, Stands, StandsContext}
use Rattle.context_types.specs.Types.{arena_of, outside_of, set_in, context_in}
use Rattle.context_types.specs.declared.lists.Each.{Each}
use Rattle.context_types.specs.declared.lists.Each.TheVariants.{FieldIs, UnionWith, MeetWith, Instead}
use Rattle.context_types.specs.declared.types.ContextTypes.{ContextTypes}
use Rattle.context_types.proofs.GrowFacts.{grows_nothing, grows_then, stands_on, set_stays, all_stand_on, sets_stay, context_on, context_stays, all_contexts_on, contexts_stay}

-- some sets were made of the first of others by a change of each, where types grew
pub record Changed (s t : ContextTypes) (change : Term → Term) (sets made : List TypeRef) : Type 0 where
  pub terms : map (set_in t) made ≡ map change (map (set_in s) sets)
  pub stand : All (Stands t) made
  pub grows : Grows s t

pub changed_none : (s : ContextTypes) (change : Term → Term) (made : List TypeRef) → made ≡ [] → Changed s s change [] made
changed_none s change made none = record {
  terms = ap (map (set_in s)) none;
  stand = subst (All (Stands s)) (sym none) (All-nil (Stands s));
  grows = grows_nothing {s = s};
}

-- one more
pub changed_more : (s t u : ContextTypes) (change : Term → Term) (sets made more : List TypeRef) (i : ℕ) (at d : TypeRef) → i < length sets → Changed s t change (take i sets) made → Grows t u → Stands u at
    → set_in u at ≡ change (set_in s (get_or sets i d)) → more ≡ made ++ at ∷ [] → Changed s u change (take (i + 1) sets) more
changed_more s t u change sets made more i at d inside before grows stands is pushed =
    let old : map (set_in u) made ≡ map change (map (set_in s) (take i sets)) = sets_stay {s = t} {t = u} made grows before.stand ∙ before.terms in
    record {
      terms =
          ap (map (set_in u)) pushed ∙ (map-append (set_in u) made (at ∷ [])
          ∙ ((λ j. old j ++ is j ∷ [])
          ∙ (sym (map-append change (map (set_in s) (take i sets)) (set_in s (get_or sets i d) ∷ []))
          ∙ ap (map change) (sym (map_more (set_in s) sets i d inside)))));
      stand = subst (All (Stands u)) (sym pushed) (All-push (Stands u) made at (all_stand_on {s = t} {t = u} made grows before.stand) stands);
      grows = grows_then {a = s} {b = t} {c = u} before.grows grows;
    }

-- a set that is listed stands
pub listed_stands : (s t : ContextTypes) (sets : List TypeRef) (i : ℕ) (d : TypeRef) → i < length sets → All (Stands s) sets → Grows s t → Stands t (get_or sets i d)
listed_stands s t sets i d inside stand grows = stands_on {s = s} {t = t} {at = get_or sets i d} grows (stand i d inside)

pub listed_stays : (s t : ContextTypes) (sets : List TypeRef) (i : ℕ) (d : TypeRef) → i < length sets → All (Stands s) sets → Grows s t → set_in t (get_or sets i d) ≡ set_in s (get_or sets i d)
listed_stays s t sets i d inside stand grows = set_stays {s = s} {t = t} {at = get_or sets i d} grows (stand i d inside)

-- what a set becomes stays
pub each_stays : (s t : ContextTypes) (how : Each) (set : Term) → All (Stands s) (refs_each how) → Grows s t → each_term (set_in t) how set ≡ each_term (set_in s) how set
each_stays s t (FieldIs name) set stand grows = refl
each_stays s t (UnionWith at) set stand grows = ap (λ (means : Term). each_term (λ other. means) (UnionWith at) set) (set_stays {s = s} {t = t} {at = at} grows (All-head (Stands s) at [] stand))
each_stays s t (MeetWith at) set stand grows = ap (λ (means : Term). each_term (λ other. means) (MeetWith at) set) (set_stays {s = s} {t = t} {at = at} grows (All-head (Stands s) at [] stand))
each_stays s t (Instead at) set stand grows = set_stays {s = s} {t = t} {at = at} grows (All-head (Stands s) at [] stand)

-- contexts stand after calls, with one more
pub stand_more : (t u : ContextTypes) (made more : List Context) (context : Context) → All (StandsContext t) made → Grows t u → StandsContext u context → more ≡ made ++ context ∷ [] → All (StandsContext u) more
stand_more t u made more context stand grows stands pushed = subst (All (StandsContext u)) (sym pushed) (All-push (StandsContext u) made context (all_contexts_on {s = t} {t = u} made grows stand) stands)

pub contexts_more : (t u : ContextTypes) (made more : List Context) (context : Context) → All (StandsContext t) made → Grows t u → more ≡ made ++ context ∷ [] → map (context_in u) more ≡ map (context_in t) made ++ context_in u context ∷ []
contexts_more t u made more context stand grows pushed =
    ap (map (context_in u)) pushed ∙ (map-append (context_in u) made (context ∷ []) ∙ ap (λ (xs : List PlainContext). xs ++ context_in u context ∷ []) (contexts_stay {s = t} {t = u} made grows stand))

-- one more set
pub only_more : (s t u : ContextTypes) (rules : Rules) (local : ℕ) (sets : List TypeRef) (made more : List Context) (i : ℕ) (d : TypeRef) (context : Context) → i < length sets → All (Stands s) sets → Grows s t → All (StandsContext t) made → Grows t u
    → map (context_in t) made ≡ map (only_for rules local) (map (set_in s) (take i sets)) → context_in u context ≡ only_for rules local (set_in t (get_or sets i d)) → more ≡ made ++ context ∷ []
    → map (context_in u) more ≡ map (only_for rules local) (map (set_in s) (take (i + 1) sets))
only_more s t u rules local sets made more i d context inside sets_stand first stand second before is pushed =
    contexts_more t u made more context stand second pushed
    ∙ ((λ j. before j ++ (is ∙ ap (only_for rules local) (listed_stays s t sets i d inside sets_stand first)) j ∷ [])
    ∙ (sym (map-append (only_for rules local) (map (set_in s) (take i sets)) (set_in s (get_or sets i d) ∷ []))
    ∙ ap (map (only_for rules local)) (sym (map_more (set_in s) sets i d inside))))

-- one more of two lists
zip_one : (f : PlainContext → PlainContext → PlainContext) (g : Context → PlainContext) (a b : List Context) (i : ℕ) (d : Context) → i < length a → i < length b
    → zipped f (map g (take (suc i) a)) (map g (take (suc i) b)) ≡ zipped f (map g (take i a)) (map g (take i b)) ++ f (g (get_or a i d)) (g (get_or b i d)) ∷ []
zip_one f g [] b i d la lb = absurd (omega (arith, la))
zip_one f g (x ∷ a) [] i d la lb = absurd (omega (arith, lb))
zip_one f g (x ∷ a) (y ∷ b) zero d la lb = refl
zip_one f g (x ∷ a) (y ∷ b) (suc i) d la lb = ap (λ (rest : List PlainContext). f (g x) (g y) ∷ rest) (zip_one f g a b i d (omega (arith, la)) (omega (arith, lb)))

pub zip_more : (s t u : ContextTypes) (f : PlainContext → PlainContext → PlainContext) (a b made more : List Context) (i : ℕ) (d context : Context) → i < length a → i < length b → All (StandsContext t) made → Grows t u
    → map (context_in t) made ≡ zipped f (map (context_in s) (take i a)) (map (context_in s) (take i b)) → context_in u context ≡ f (context_in s (get_or a i d)) (context_in s (get_or b i d)) → more ≡ made ++ context ∷ []
    → map (context_in u) more ≡ zipped f (map (context_in s) (take (i + 1) a)) (map (context_in s) (take (i + 1) b))
zip_more s t u f a b made more i d context la lb stand second before is pushed =
    contexts_more t u made more context stand second pushed ∙ ((λ j. before j ++ is j ∷ []) ∙ (sym (zip_one f (context_in s) a b i d la lb)
    ∙ ap (λ (n : ℕ). zipped f (map (context_in s) (take n a)) (map (context_in s) (take n b))) (sym (add-one i))))

-- all of the shorter list
pub zip_all : (f : PlainContext → PlainContext → PlainContext) (g : Context → PlainContext) (a b : List Context) (n : ℕ) → (length a ≤ length b → n ≡ length a) → (length b ≤ length a → n ≡ length b) → n ≤ length a → n ≤ length b
    → zipped f (map g (take n a)) (map g (take n b)) ≡ zipped f (map g a) (map g b)
zip_all f g [] b n first second la lb = by_n n la
  where
    by_n : (n : ℕ) → n ≤ 0 → zipped f (map g (take n [])) (map g (take n b)) ≡ []
    by_n zero l = refl
    by_n (suc n) l = absurd (omega (arith, l))
zip_all f g (x ∷ a) [] n first second la lb = by_n n lb
  where
    by_n : (n : ℕ) → n ≤ 0 → zipped f (map g (take n (x ∷ a))) (map g (take n [])) ≡ []
    by_n zero l = refl
    by_n (suc n) l = absurd (omega (arith, l))
zip_all f g (x ∷ a) (y ∷ b) zero first second la lb = absurd (neither (length a) (length b) first second)
  where
    neither : (m n : ℕ) → (suc m ≤ suc n → 0 ≡ suc m) → (suc n ≤ suc m → 0 ≡ suc n) → ⊥
    neither zero n p q = let e = p (omega arith) in omega (arith, e)
    neither (suc m) zero p q = let e = q (omega arith) in omega (arith, e)
    neither (suc m) (suc n) p q = neither m n (λ l. let e = p (omega (arith, l)) in absurd (omega (arith, e))) (λ l. let e = q (omega (arith, l)) in absurd (omega (arith, e)))
zip_all f g (x ∷ a) (y ∷ b) (suc n) first second la lb =
    ap (λ (rest : List PlainContext). f (g x) (g y) ∷ rest)
    (zip_all f g a b n (λ l. let e = first (omega (arith, l)) in omega (arith, e)) (λ l. let e = second (omega (arith, l)) in omega (arith, e)) (omega (arith, la)) (omega (arith, lb)))

-- the first of some contexts, the rest, and those for parts of sets
pub first_meant : (types : ContextTypes) (contexts : List Context) → context_in types (first_ref contexts) ≡ first_of (map (context_in types) contexts)
first_meant types [] = refl
first_meant types (context ∷ contexts) = refl

pub first_stands : (types : ContextTypes) (contexts : List Context) → StandsContext types no_context → All (StandsContext types) contexts → StandsContext types (first_ref contexts)
first_stands types [] none stand = none
first_stands types (context ∷ contexts) none stand = All-head (StandsContext types) context contexts stand

pub rest_meant : {X Y : Type 0} (f : X → Y) (xs : List X) → map f (rest_of xs) ≡ rest_of (map f xs)
rest_meant f [] = refl
rest_meant f (x ∷ xs) = refl

pub rest_all : {X : Type 0} (P : X → Type 0) (xs : List X) → All P xs → All P (rest_of xs)
rest_all P [] all = all
rest_all P (x ∷ xs) all = All-tail P x xs all

-- the same context once more
pub spread_more : (context one : Context) (sets : List TypeRef) (made more : List Context) (i : ℕ) → i < length sets → made ≡ map (λ set. context) (take i sets) → one ≡ context → more ≡ made ++ one ∷ []
    → more ≡ map (λ set. context) (take (i + 1) sets)
spread_more context one sets made more i inside before is pushed =
    pushed ∙ ((λ j. before j ++ is j ∷ []) ∙ sym (map_more (λ set. context) sets i (record { home = 0; id = 0 }) inside))

-- the parts of sets by which a left side is asked
pub parts_made : (s t u v : ContextTypes) (type : Term) (sets rest met parts : List TypeRef) (nothing values : TypeRef) → Grows s t → Grows t u → Grows u v → All (Stands s) rest → Stands t nothing
    → set_in t nothing ≡ never → set_in u values ≡ type → map (set_in s) rest ≡ past_none (map (set_in s) sets) → map (set_in v) met ≡ map (λ set. meet set (set_in u values)) (map (set_in u) rest) → parts ≡ nothing ∷ met
    → map (set_in v) parts ≡ parts_of type (map (set_in s) sets)
parts_made s t u v type sets rest met parts nothing values first second third stand nothing_stands none is past mets listed =
    let on = grows_then {a = s} {b = t} {c = u} first second in
    let kept : map (set_in u) rest ≡ past_none (map (set_in s) sets) = sets_stay {s = s} {t = u} rest on stand ∙ past in
    let head : set_in v nothing ≡ never = set_stays {s = t} {t = v} {at = nothing} (grows_then {a = t} {b = u} {c = v} second third) nothing_stands ∙ none in
    ap (map (set_in v)) listed
    ∙ (λ i. head i ∷ (mets ∙ (λ j. map (λ set. meet set (is j)) (kept j))) i)

pub parts_stand : (t u v : ContextTypes) (met parts : List TypeRef) (nothing : TypeRef) → Grows t u → Grows u v → Stands t nothing → All (Stands v) met → parts ≡ nothing ∷ met → All (Stands v) parts
parts_stand t u v met parts nothing second third stands met_stand listed =
    subst (All (Stands v)) (sym listed)
    (All-cons (Stands v) nothing met (stands_on {s = t} {t = v} {at = nothing} (grows_then {a = t} {b = u} {c = v} second third) stands) met_stand)

-- the context in which nothing makes the code fail stands anywhere
pub nothing_stands : (types : ContextTypes) → StandsContext types no_context
nothing_stands types = record {
  is = record {
    sorted = tt;
    there = All-nil (λ at. IsTrue (has (store_of (arena_of types)) at));
    cut = All-nil (λ at. is_cut (set_in types at) ≡ true);
    full = All-nil (λ at. is_empty (set_in types at) ≡ false);
  };
  made = All-nil (IsMade (arena_of types) (outside_of types));
}

-- a listed context stands after calls, and means the same
pub one_stands : (s t : ContextTypes) (contexts : List Context) (i : ℕ) (context : Context) → i < length contexts → context ≡ get_or contexts i context → All (StandsContext s) contexts → Grows s t → StandsContext t context
one_stands s t contexts i context inside is stand grows =
    context_on {s = s} {t = t} {context = context} grows (subst (StandsContext s) (sym is) (stand i context inside))

pub one_stays : (s t : ContextTypes) (contexts : List Context) (i : ℕ) (context : Context) → i < length contexts → context ≡ get_or contexts i context → All (StandsContext s) contexts → Grows s t → context_in t context ≡ context_in s (get_or contexts i context)
one_stays s t contexts i context inside is stand grows =
    context_stays {s = s} {t = t} {context = context} grows (subst (StandsContext s) (sym is) (stand i context inside)) ∙ ap (context_in s) is

-- one more of two lists, by a call on both
pub zip_two : (s t u : ContextTypes) (f : PlainContext → PlainContext → PlainContext → PlainContext) (first : Context) (a b made more : List Context) (i : ℕ) (x y context : Context) → i < length a → i < length b → StandsContext s first
    → x ≡ get_or a i x → y ≡ get_or b i y → All (StandsContext s) a → All (StandsContext s) b → Grows s t → All (StandsContext t) made → Grows t u
    → map (context_in t) made ≡ zipped (f (context_in s first)) (map (context_in s) (take i a)) (map (context_in s) (take i b)) → context_in u context ≡ f (context_in t first) (context_in t x) (context_in t y) → more ≡ made ++ context ∷ []
    → map (context_in u) more ≡ zipped (f (context_in s first)) (map (context_in s) (take (i + 1) a)) (map (context_in s) (take (i + 1) b))
zip_two s t u f first a b made more i x y context la lb first_stands x_is y_is a_stand b_stand grows stand second before is pushed =
    let n = context_stays {s = s} {t = t} {context = first} grows first_stands in
    let p = one_stays s t a i x la x_is a_stand grows in
    let q = one_stays s t b i y lb y_is b_stand grows in
    let same : get_or b i y ≡ get_or b i x = get_or_default b i y x lb in
    zip_more s t u (f (context_in s first)) a b made more i x context la lb stand second before
    (is ∙ ((λ j. f (n j) (p j) (q j)) ∙ ap (λ (z : Context). f (context_in s first) (context_in s (get_or a i x)) (context_in s z)) same)) pushed
