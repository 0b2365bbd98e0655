-- Stacks: lists whose last element comes first in what they stand for.
use Rattle.std.proofs.Common.{◌≡◌, ℕ, List, [], ◌∷◌, ◌++◌, length, refl, sym, ap, ◌∙◌, subst, arith}
use Rattle.std.specs.Prelude.{Bool, true, false, if◌then◌else◌, All, map, reverse, Option, Some, None, option_to_list, MatchOption}
use Rattle.std.proofs.lemmas.List.Elements.{All-push, All-pop}
use Rattle.rule_work.specs.Moves.{rest_of}
use Rattle.std.proofs.lemmas.List.{reverse-append, map-append, append-nil}

pub pushed_last : {X Y : Type 0} (f : X → Y) (old new : List X) (x : X) → new ≡ old ++ x ∷ [] → reverse (map f new) ≡ f x ∷ reverse (map f old)
pushed_last f old new x is = ap (λ xs. reverse (map f xs)) is ∙ (ap reverse (map-append f old (x ∷ [])) ∙ reverse-append (map f old) (f x ∷ []))

-- what is popped was last
pub popped_some : {X : Type 0} (old new : List X) (r : Option X) (x : X) → old ≡ new ++ option_to_list r → r ≡ Some x → old ≡ new ++ x ∷ []
popped_some old new r x items is = items ∙ ap (λ found. new ++ option_to_list found) is

pub popped_last : {X Y : Type 0} (f : X → Y) (old new : List X) (r : Option X) (x : X) → old ≡ new ++ option_to_list r → r ≡ Some x → reverse (map f old) ≡ f x ∷ reverse (map f new)
popped_last f old new r x items is = pushed_last f new old x (popped_some old new r x items is)

-- where nothing is popped nothing was there, and nothing is
empty_by : {X : Type 0} (xs : List X) (n : ℕ) → n ≡ 0 → n ≡ length xs → xs ≡ []
empty_by [] n none long = refl
empty_by (x ∷ xs) n none long = absurd (omega (arith, none, long))

pub popped_none : {X : Type 0} (B : X → Type 0) (old : List X) (r : Option X) (n m : ℕ) → MatchOption r ((n ≡ 0) × (m ≡ 0)) B → n ≡ length old → r ≡ None → old ≡ []
popped_none B old r n m cases long is = empty_by old n (subst (λ found. MatchOption found ((n ≡ 0) × (m ≡ 0)) B) is cases).0 long

pub nothing_left : {X : Type 0} (old new : List X) (r : Option X) → old ≡ new ++ option_to_list r → r ≡ None → old ≡ [] → new ≡ []
nothing_left old new r items is none = sym (append-nil new) ∙ (sym (ap (λ found. new ++ option_to_list found) is) ∙ (sym items ∙ none))

-- so it stands for nothing before and after
pub popped_nothing : {X Y : Type 0} (f : X → Y) (B : X → Type 0) (old new : List X) (r : Option X) (n m : ℕ) → old ≡ new ++ option_to_list r → MatchOption r ((n ≡ 0) × (m ≡ 0)) B → n ≡ length old → r ≡ None
    → (reverse (map f old) ≡ []) × (reverse (map f new) ≡ [])
popped_nothing f B old new r n m items cases long is =
    let none : old ≡ [] = popped_none B old r n m cases long is in
    (ap (λ xs. reverse (map f xs)) none, ap (λ xs. reverse (map f xs)) (nothing_left old new r items is none))

-- the same for lists of lists
pub pushed_list : {V X Y : Type 0} (f : X → Y) (g : V → List X) (old new : List V) (x : V) → new ≡ old ++ x ∷ [] → reverse (map (map f) (map g new)) ≡ map f (g x) ∷ reverse (map (map f) (map g old))
pushed_list f g old new x is = ap (λ xs. reverse (map (map f) (map g xs))) is ∙ (ap (λ xs. reverse (map (map f) xs)) (map-append g old (x ∷ [])) ∙ (ap reverse (map-append (map f) (map g old) (g x ∷ [])) ∙ reverse-append (map (map f) (map g old)) (map f (g x) ∷ [])))

pub popped_list : {V X Y : Type 0} (f : X → Y) (g : V → List X) (old new : List V) (r : Option V) (x : V) → old ≡ new ++ option_to_list r → r ≡ Some x → reverse (map (map f) (map g old)) ≡ map f (g x) ∷ reverse (map (map f) (map g new))
popped_list f g old new r x items is = pushed_list f g new old x (popped_some old new r x items is)

pub popped_no_list : {V X Y : Type 0} (f : X → Y) (g : V → List X) (B : V → Type 0) (old new : List V) (r : Option V) (n m : ℕ) → old ≡ new ++ option_to_list r → MatchOption r ((n ≡ 0) × (m ≡ 0)) B → n ≡ length old → r ≡ None
    → (reverse (map (map f) (map g old)) ≡ []) × (reverse (map (map f) (map g new)) ≡ [])
popped_no_list f g B old new r n m items cases long is =
    let none : old ≡ [] = popped_none B old r n m cases long is in
    (ap (λ xs. reverse (map (map f) (map g xs))) none, ap (λ xs. reverse (map (map f) (map g xs))) (nothing_left old new r items is none))

-- what holds of each list holds with one more, and with one less
pub all_pushed : {V X : Type 0} (P : List X → Type 0) (g : V → List X) (old new : List V) (x : V) → new ≡ old ++ x ∷ [] → All P (map g old) → P (g x) → All P (map g new)
all_pushed P g old new x is all holds = subst (All P) (sym (ap (map g) is ∙ map-append g old (x ∷ []))) (All-push P (map g old) (g x) all holds)

pub all_popped : {V X : Type 0} (P : List X → Type 0) (g : V → List X) (old new : List V) (r : Option V) (x : V) → old ≡ new ++ option_to_list r → r ≡ Some x → All P (map g old) → All P (map g new) × P (g x)
all_popped P g old new r x items is all =
    let whole : All P (map g new ++ g x ∷ []) = subst (All P) (ap (map g) (popped_some old new r x items is) ∙ map-append g new (x ∷ [])) all in
    let both = All-pop P (map g new ++ g x ∷ []) (map g new) (Some (g x)) refl whole in (both.0, both.1)

pub all_pushed_or_not : {V X : Type 0} (P : List X → Type 0) (g : V → List X) (old new : List V) (x : V) (ok : Bool) → new ≡ (if ok then old ++ x ∷ [] else old) → All P (map g old) → P (g x) → All P (map g new)
all_pushed_or_not P g old new x true is all holds = all_pushed P g old new x is all holds
all_pushed_or_not P g old new x false is all holds = subst (λ xs. All P (map g xs)) (sym is) all

-- of each list one less
pub all_rest : {V X : Type 0} (P : List X → Type 0) (g : V → List X) (old new : List V) (r : Option V) → old ≡ new ++ option_to_list r → All P (map g old) → All P (map g new)
all_rest P g old new None items all = subst (λ xs. All P (map g xs)) (items ∙ append-nil new) all
all_rest P g old new (Some x) items all = (all_popped P g old new (Some x) x items refl all).0

-- what is left of a stack of lists, whatever was popped
pub list_popped : {V X Y : Type 0} (f : X → Y) (g : V → List X) (B : V → Type 0) (old new : List V) (r : Option V) (n m : ℕ) → old ≡ new ++ option_to_list r → MatchOption r ((n ≡ 0) × (m ≡ 0)) B → n ≡ length old
    → reverse (map (map f) (map g new)) ≡ rest_of (reverse (map (map f) (map g old)))
list_popped f g B old new None n m items cases long =
    let none = popped_no_list f g B old new None n m items cases long refl in none.1 ∙ sym (ap rest_of none.0)
list_popped f g B old new (Some x) n m items cases long = sym (ap rest_of (popped_list f g old new (Some x) x items refl))
