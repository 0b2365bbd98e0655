-- Lists of types that are used up.
use Rattle.std.proofs.Common.{◌≡◌, ℕ, List, [], ◌∷◌, ◌++◌, length, refl, sym, ap, ◌∙◌, subst, Vec, Global}
use Rattle.std.specs.List.{remove}
use Rattle.std.specs.Prelude.{Bool, true, false, ◌==◌, slice_index_or, All, map, reverse, Option, Some, None, option_to_list, MatchOption, slice_get, IsTrue}
use Rattle.std.proofs.lemmas.Bool.{eqb-true, eq-eqb}
use Rattle.std.proofs.lemmas.List.{nil_from_length, reverse-append, map-append, reverse-reverse}
use Rattle.std.proofs.lemmas.List.Elements.{All-nil, All-push, All-head, All-tail}
use Rattle.type_arena.specs.Term.{Term}
use Rattle.type_arena.specs.Store.{has}
use Rattle.type_arena.specs.declared.node.TypeRef.{TypeRef}
use Rattle.local_types.specs.Entries.{arenas_of, type_of}
use Rattle.local_types.specs.Growing.{Grows, IsMadeOf}
use Rattle.local_types.specs.Named.{types_listed}
use Rattle.local_types.specs.declared.types.LocalTypes.{LocalTypes}
use Rattle.report_rules.specs.Forward.{first_or_never}
use Rattle.report_rules.specs.TypeMap.{not_given}
use Rattle.rule_work.specs.Listed.{used_from, used, first_taken_from, first_taken}
use Rattle.rule_work.specs.Moves.{valued}
use Rattle.rule_state.specs.Sound.{Stands, IsSound}
use Rattle.rule_state.specs.Work.{work_of}
use Rattle.rule_state.specs.declared.state.RuleState.{RuleState}
use Rattle.rule_state.proofs.SoundFacts.{lists_in, ends_in, with_lists, sound_on, sound_valued}
use Rattle.rule_state.proofs.StackFacts.{pushed_list, popped_list, popped_no_list, all_popped, all_rest}
use Rattle.rule_state.proofs.WorkFacts.{around_on, around_stays, work_parts, parts_stay}

-- lists in reverse
pub map_reversed : {X Y : Type 0} (f : X → Y) (xs : List X) → reverse (map f xs) ≡ map f (reverse xs)
map_reversed f [] = refl
map_reversed f (x ∷ xs) =
    reverse-append (f x ∷ []) (map f xs)
    ∙ (ap (λ ys. ys ++ f x ∷ []) (map_reversed f xs)
    ∙ (sym (map-append f (reverse xs) (x ∷ [])) ∙ sym (ap (map f) (reverse-append (x ∷ []) xs))))

pub listed_reversed : (types : LocalTypes) (refs : List TypeRef) → types_listed types (reverse refs) ≡ map (type_of types) refs
listed_reversed types refs = map_reversed (type_of types) (reverse refs) ∙ ap (map (type_of types)) (reverse-reverse refs)

pub all_reversed : {X : Type 0} (P : X → Type 0) (xs : List X) → All P xs → All P (reverse xs)
all_reversed P [] all = All-nil P
all_reversed P (x ∷ xs) all = subst (All P) (sym (reverse-append (x ∷ []) xs)) (All-push P (reverse xs) x (all_reversed P xs (All-tail P x xs all)) (All-head P x xs all))

-- the first of a list
clash : {X : Type 0} (x : X) → Some x ≡ None → ⊥
clash x e = cc

unsome : {X : Type 0} (x y : X) → Some x ≡ Some y → x ≡ y
unsome x y e = cc

pub first_stands : {X : Type 0} (P : X → Type 0) (xs : List X) (x : X) → Some x ≡ slice_get xs 0 → All P xs → P x
first_stands P [] x e all = absurd (clash x e)
first_stands P (y ∷ xs) x e all = subst P (sym (unsome x y e)) (All-head P y xs all)

pub some_first : (types : LocalTypes) (xs : List TypeRef) (x : TypeRef) → Some x ≡ slice_get xs 0 → type_of types x ≡ first_or_never (map (type_of types) xs)
some_first types [] x e = absurd (clash x e)
some_first types (y ∷ xs) x e = ap (type_of types) (unsome x y e)

pub no_first : {X : Type 0} (xs : List X) (found : Option X) → found ≡ slice_get xs 0 → found ≡ None → xs ≡ []
no_first [] found e is = refl
no_first (x ∷ xs) found e is = absurd (clash x (sym e ∙ is))

pub is_emptied : {X : Type 0} (xs : List X) (n : ℕ) → n ≡ length xs → (n == 0) ≡ true → xs ≡ []
is_emptied xs n long e = nil_from_length xs (sym long ∙ eqb-true n 0 e)

unequal : true ≡ false → ⊥
unequal e = cc

pub first_removed : {X : Type 0} (xs new : List X) (x : X) (n : ℕ) → n ≡ length xs → (n == 0) ≡ false → x ≡ slice_index_or xs 0 x → new ≡ remove xs 0 → xs ≡ x ∷ new
first_removed [] new x n long e is rest = absurd (unequal (sym (eq-eqb n 0 long) ∙ e))
first_removed (y ∷ xs) new x n long e is rest = ap (λ z. z ∷ xs) (sym is) ∙ ap (λ ys. x ∷ ys) (sym rest)

-- the innermost list is no more there
pub sound_unlisted : (old : RuleState) (rest : List (Vec TypeRef Global)) (r : Option (Vec TypeRef Global)) → old.lists.items ≡ rest ++ option_to_list r
    → IsSound old.types old.outside.items old.value old.held.items (map (λ list. list.items) rest) old.point old.saved.items (ends_in old) old.seen.items
sound_unlisted old rest r items =
    with_lists old.types old.outside.items old.value old.held.items (lists_in old) old.point old.saved.items (ends_in old) old.seen.items (map (λ list. list.items) rest) old.sound
    (all_rest (All (Stands old.types old.outside.items)) (λ list. list.items) old.lists.items rest r items old.sound.lists_stand)

pub list_stands : (old : RuleState) (rest : List (Vec TypeRef Global)) (r : Option (Vec TypeRef Global)) (x : Vec TypeRef Global) → old.lists.items ≡ rest ++ option_to_list r → r ≡ Some x → All (Stands old.types old.outside.items) x.items
list_stands old rest r x items is = (all_popped (All (Stands old.types old.outside.items)) (λ list. list.items) old.lists.items rest r x items is old.sound.lists_stand).1

-- calls on the types without it
pub unlisted_same : (old : RuleState) (t : LocalTypes) (given : List TypeRef) (rest : List (Vec TypeRef Global)) (r : Option (Vec TypeRef Global)) → old.lists.items ≡ rest ++ option_to_list r
    → All (Stands old.types old.outside.items) given → Grows old.types t given → IsSound t old.outside.items old.value old.held.items (map (λ list. list.items) rest) old.point old.saved.items (ends_in old) old.seen.items
unlisted_same old t given rest r items stand grows =
    sound_on old.types t old.outside.items given old.value old.held.items (map (λ list. list.items) rest) old.point old.saved.items (ends_in old) old.seen.items stand grows (sound_unlisted old rest r items)

pub unlisted_other : (old : RuleState) (t : LocalTypes) (given : List TypeRef) (at : TypeRef) (rest : List (Vec TypeRef Global)) (r : Option (Vec TypeRef Global)) → old.lists.items ≡ rest ++ option_to_list r
    → All (Stands old.types old.outside.items) given → Grows old.types t given → IsTrue (has (arenas_of t) at) → IsMadeOf old.types given at
    → IsSound t old.outside.items at old.held.items (map (λ list. list.items) rest) old.point old.saved.items (ends_in old) old.seen.items
unlisted_other old t given at rest r items stand grows there made =
    sound_valued old.types t old.outside.items given old.value at old.held.items (map (λ list. list.items) rest) old.point old.saved.items (ends_in old) old.seen.items stand grows there made (sound_unlisted old rest r items)

-- what a state stands for whose innermost list was used up
pub used_is : (f : List Term → Term → Term) (old : RuleState) (rest : List (Vec TypeRef Global)) (r : Option (Vec TypeRef Global)) (x : Vec TypeRef Global) → old.lists.items ≡ rest ++ option_to_list r → r ≡ Some x
    → record (work_of old) { value = f (map (type_of old.types) x.items) (type_of old.types old.value); lists = reverse (map (map (type_of old.types)) (map (λ list. list.items) rest)) } ≡ used f (work_of old)
unfolding work_of
used_is f old rest r x items is = ap (λ (lists : List (List Term)). used_from f lists (work_of old)) (sym (popped_list (type_of old.types) (λ list. list.items) old.lists.items rest r x items is))

pub used_none : (f : List Term → Term → Term) (B : Vec TypeRef Global → Type 0) (old : RuleState) (rest : List (Vec TypeRef Global)) (r : Option (Vec TypeRef Global)) (n m : ℕ) → old.lists.items ≡ rest ++ option_to_list r → MatchOption r ((n ≡ 0) × (m ≡ 0)) B → n ≡ length old.lists.items
    → r ≡ None → record (work_of old) { lists = reverse (map (map (type_of old.types)) (map (λ list. list.items) rest)) } ≡ used f (work_of old)
unfolding work_of
used_none f B old rest r n m items cases long is =
    let none = popped_no_list (type_of old.types) (λ list. list.items) B old.lists.items rest r n m items cases long is in
    ap (λ (lists : List (List Term)). record (work_of old) { lists = lists }) none.1
    ∙ sym (ap (λ (lists : List (List Term)). used_from f lists (record (work_of old) { lists = lists })) none.0)

pub work_used : (f : List Term → Term → Term) (old : RuleState) (t : LocalTypes) (given : List TypeRef) (at : TypeRef) (rest : List (Vec TypeRef Global)) (r : Option (Vec TypeRef Global)) (x : Vec TypeRef Global) → old.lists.items ≡ rest ++ option_to_list r → r ≡ Some x → Grows old.types t given
    → type_of t at ≡ f (map (type_of old.types) x.items) (type_of old.types old.value)
    → work_parts t at old.held.items (map (λ list. list.items) rest) old.point old.saved.items (ends_in old) old.seen.items old.pending.items (around_on t old) ≡ used f (work_of old)
unfolding work_of
work_used f old t given at rest r x items is grows term =
    ap (valued (type_of t at)) (parts_stay old.types t old.outside.items given old.value old.held.items (map (λ list. list.items) rest) old.point old.saved.items (ends_in old) old.seen.items old.pending.items (around_on old.types old) (around_on t old) (around_stays old t given grows) grows (sound_unlisted old rest r items))
    ∙ (ap (λ (type : Term). record (work_of old) { value = type; lists = reverse (map (map (type_of old.types)) (map (λ list. list.items) rest)) }) term
    ∙ used_is f old rest r x items is)

-- what a state stands for of whose innermost list the first was taken, or which had none
pub nothing_taken : (old : RuleState) (expanding : Bool) (rest new : List (Vec TypeRef Global)) (r : Option (Vec TypeRef Global)) (x : Vec TypeRef Global) → old.lists.items ≡ rest ++ option_to_list r → r ≡ Some x → new ≡ rest ++ x ∷ [] → x.items ≡ []
    → valued (not_given expanding) (record (work_of old) { lists = reverse (map (map (type_of old.types)) (map (λ list. list.items) new)) }) ≡ first_taken expanding (work_of old)
unfolding work_of
nothing_taken old expanding rest new r x items is pushed nothing =
    let before = popped_list (type_of old.types) (λ list. list.items) old.lists.items rest r x items is in
    let after = pushed_list (type_of old.types) (λ list. list.items) rest new x pushed in
    ap (λ (lists : List (List Term)). record (work_of old) { value = not_given expanding; lists = lists }) (after ∙ sym before)
    ∙ sym (ap (λ (lists : List (List Term)). first_taken_from expanding lists (work_of old)) (before ∙ ap (λ (xs : List TypeRef). map (type_of old.types) xs ∷ reverse (map (map (type_of old.types)) (map (λ list. list.items) rest))) nothing))

pub one_taken : (old : RuleState) (expanding : Bool) (rest new : List (Vec TypeRef Global)) (r : Option (Vec TypeRef Global)) (x y : Vec TypeRef Global) (at : TypeRef) → old.lists.items ≡ rest ++ option_to_list r → r ≡ Some x → new ≡ rest ++ y ∷ [] → x.items ≡ at ∷ y.items
    → record (work_of old) { value = type_of old.types at; lists = reverse (map (map (type_of old.types)) (map (λ list. list.items) new)) } ≡ first_taken expanding (work_of old)
unfolding work_of
one_taken old expanding rest new r x y at items is pushed first =
    let before = popped_list (type_of old.types) (λ list. list.items) old.lists.items rest r x items is in
    let after = pushed_list (type_of old.types) (λ list. list.items) rest new y pushed in
    ap (λ (lists : List (List Term)). record (work_of old) { value = type_of old.types at; lists = lists }) after
    ∙ sym (ap (λ (lists : List (List Term)). first_taken_from expanding lists (work_of old)) (before ∙ ap (λ (xs : List TypeRef). map (type_of old.types) xs ∷ reverse (map (map (type_of old.types)) (map (λ list. list.items) rest))) first))

pub no_list_taken : (old : RuleState) (expanding : Bool) (B : Vec TypeRef Global → Type 0) (rest : List (Vec TypeRef Global)) (r : Option (Vec TypeRef Global)) (n m : ℕ) → old.lists.items ≡ rest ++ option_to_list r → MatchOption r ((n ≡ 0) × (m ≡ 0)) B → n ≡ length old.lists.items
    → r ≡ None → record (work_of old) { lists = reverse (map (map (type_of old.types)) (map (λ list. list.items) rest)) } ≡ first_taken expanding (work_of old)
unfolding work_of
no_list_taken old expanding B rest r n m items cases long is =
    let none = popped_no_list (type_of old.types) (λ list. list.items) B old.lists.items rest r n m items cases long is in
    ap (λ (lists : List (List Term)). record (work_of old) { lists = lists }) none.1
    ∙ sym (ap (λ (lists : List (List Term)). first_taken_from expanding lists (record (work_of old) { lists = lists })) none.0)
