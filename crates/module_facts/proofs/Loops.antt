-- Loops that test the items of a list, one by one. The test of a list is that of its first item or that of the others.
use Rattle.std.proofs.Common.{◌≡◌, ℕ, ◌+◌, ◌<◌, ◌≤◌, Bool, true, false, ◌||◌, List, [], ◌∷◌, length, get_or, drop, refl, sym, ap, ◌∙◌}
use Rattle.std.proofs.lemmas.List.{at_drop_more, at_drop_all}

pub or_assoc : (a b c : Bool) → ((a || b) || c) ≡ (a || (b || c))
or_assoc true b c = refl
or_assoc false b c = refl

-- one test or another, where the first is known
pub or_first : (a b r : Bool) → r ≡ a → r ≡ true → r ≡ (a || b)
or_first a b r e t = t ∙ sym (ap (λ c. c || b) (sym e ∙ t))

pub or_second : (a b r s : Bool) → r ≡ a → r ≡ false → s ≡ b → s ≡ (a || b)
or_second a b r s e f g = g ∙ sym (ap (λ c. c || b) (sym e ∙ f))

-- the rest of a list, once an item of it is read
pub rest_read : {X Y : Type 0} (F : List X → Y) (xs : List X) (i : ℕ) (x : X) (whole : Y) → i < length xs → x ≡ get_or xs i x → whole ≡ F (drop i xs) → whole ≡ F (x ∷ drop (i + 1) xs)
rest_read F xs i x whole lt is inv = inv ∙ at_drop_more F xs i x lt ∙ ap (λ y. F (y ∷ drop (i + 1) xs)) (sym is)

-- an item passes
pub found : {X : Type 0} (F : List X → Bool) (p : X → Bool) → ((x : X) (xs : List X) → F (x ∷ xs) ≡ (p x || F xs))
    → (xs : List X) (i : ℕ) (x : X) (r whole : Bool) → i < length xs → x ≡ get_or xs i x → whole ≡ F (drop i xs) → r ≡ p x → r ≡ true → true ≡ whole
found F p step xs i x r whole lt is inv e t =
    sym (rest_read F xs i x whole lt is inv ∙ step x (drop (i + 1) xs) ∙ ap (λ b. b || F (drop (i + 1) xs)) (sym e ∙ t))

-- an item doesn't pass
pub passed : {X : Type 0} (F : List X → Bool) (p : X → Bool) → ((x : X) (xs : List X) → F (x ∷ xs) ≡ (p x || F xs))
    → (xs : List X) (i : ℕ) (x : X) (r whole : Bool) → i < length xs → x ≡ get_or xs i x → whole ≡ F (drop i xs) → r ≡ p x → r ≡ false → whole ≡ F (drop (i + 1) xs)
passed F p step xs i x r whole lt is inv e f =
    rest_read F xs i x whole lt is inv ∙ step x (drop (i + 1) xs) ∙ ap (λ b. b || F (drop (i + 1) xs)) (sym e ∙ f)

-- no item passed
pub none_left : {X Y : Type 0} (F : List X → Y) (xs : List X) (i : ℕ) (whole none : Y) → length xs ≤ i → whole ≡ F (drop i xs) → F [] ≡ none → none ≡ whole
none_left F xs i whole none ge inv e = sym (inv ∙ at_drop_all F xs i ge ∙ e)
