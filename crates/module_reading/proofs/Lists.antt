-- Numbers in lists.
use Rattle.std.proofs.Common.{◌≡◌, ℕ, ◌==◌, Bool, true, false, not, ◌&&◌, ◌||◌, List, [], ◌∷◌, ◌++◌, map, refl, sym, ap, ◌∙◌, subst, eq-eqb, eqb-true, inl, inr}
use Rattle.std.specs.Prelude.{◌⊎◌, Some, filter, if◌then◌else◌}
use Rattle.std.specs.List.{find, AllByRecursion}
use Rattle.luau_run.specs.ReadFolder.{is_among, are_distinct}
use Rattle.luau_scope.specs.Laws.{Within, none, both, left_out}

pub itself : (n : ℕ) → (n == n) ≡ true
itself n = eq-eqb n n refl

pub and_parts : (a b : Bool) → (a && b) ≡ true → (a ≡ true) × (b ≡ true)
and_parts true b e = (refl, e)
and_parts false b e = cc

pub and_both : (a b : Bool) → a ≡ true → b ≡ true → (a && b) ≡ true
and_both true b e f = f
and_both false b e f = cc

pub or_parts : (a b : Bool) → (a || b) ≡ false → (a ≡ false) × (b ≡ false)
or_parts true b e = cc
or_parts false b e = (refl, e)

pub or_neither : (a b : Bool) → a ≡ false → b ≡ false → (a || b) ≡ false
or_neither true b e f = cc
or_neither false b e f = f

pub or_left : (a b : Bool) → a ≡ true → (a || b) ≡ true
or_left true b e = refl
or_left false b e = cc

pub or_right : (a b : Bool) → b ≡ true → (a || b) ≡ true
or_right true b e = refl
or_right false b e = e

pub not_true : (b : Bool) → not b ≡ true → b ≡ false
not_true true e = cc
not_true false e = refl

pub is_not : (b : Bool) → b ≡ false → not b ≡ true
is_not true e = cc
is_not false e = refl

-- what isn't among numbers isn't among some of them
fewer_among : {xs ys : List ℕ} (n : ℕ) → Within xs ys → is_among n ys ≡ false → is_among n xs ≡ false
fewer_among n none e = refl
fewer_among n (both {xs = xs} {ys = ys} x w) e = let p = or_parts (n == x) (is_among n ys) e in or_neither (n == x) (is_among n xs) p.0 (fewer_among n w p.1)
fewer_among n (left_out {xs = xs} {ys = ys} y w) e = fewer_among n w (or_parts (n == y) (is_among n ys) e).1

-- so some of distinct numbers are distinct
pub fewer_distinct : {xs ys : List ℕ} → Within xs ys → are_distinct ys ≡ true → are_distinct xs ≡ true
fewer_distinct none d = refl
fewer_distinct (both {xs = xs} {ys = ys} x w) d =
    let p = and_parts (not (is_among x ys)) (are_distinct ys) d in
    and_both (not (is_among x xs)) (are_distinct xs) (is_not (is_among x xs) (fewer_among x w (not_true (is_among x ys) p.0))) (fewer_distinct w p.1)
fewer_distinct (left_out {xs = xs} {ys = ys} y w) d = fewer_distinct w (and_parts (not (is_among y ys)) (are_distinct ys) d).1

-- ---- items of lists

-- an item stands in a list
abbrev pub Has : {A : Type 0} → List A → A → Type 0
Has [] x = ⊥
Has (y ∷ ys) x = (y ≡ x) ⊎ Has ys x

pub has_left : {A : Type 0} (xs ys : List A) (x : A) → Has xs x → Has (xs ++ ys) x
has_left [] ys x h = absurd h
has_left (z ∷ xs) ys x (inl e) = inl e
has_left (z ∷ xs) ys x (inr h) = inr (has_left xs ys x h)

pub has_right : {A : Type 0} (xs ys : List A) (x : A) → Has ys x → Has (xs ++ ys) x
has_right [] ys x h = h
has_right (z ∷ xs) ys x h = inr (has_right xs ys x h)

pub has_either : {A : Type 0} (xs ys : List A) (x : A) → Has (xs ++ ys) x → Has xs x ⊎ Has ys x
has_either [] ys x h = inr h
has_either (z ∷ xs) ys x (inl e) = inl (inl e)
has_either (z ∷ xs) ys x (inr h) = elim (has_either xs ys x h) [ inl l ↦ inl (inr l) | inr r ↦ inr r ]

-- what holds of each item
pub all_of : {A : Type 0} (P : A → Type 0) (xs : List A) → ((x : A) → Has xs x → P x) → AllByRecursion P xs
all_of P [] h = tt
all_of P (x ∷ xs) h = (h x (inl refl), all_of P xs (λ y k. h y (inr k)))

pub one_of : {A : Type 0} (P : A → Type 0) (xs : List A) (x : A) → AllByRecursion P xs → Has xs x → P x
one_of P [] x all h = absurd h
one_of P (y ∷ xs) x all (inl e) = subst P e all.0
one_of P (y ∷ xs) x all (inr h) = one_of P xs x all.1 h

pub has_map : {A B : Type 0} (f : A → B) (xs : List A) (x : A) → Has xs x → Has (map f xs) (f x)
has_map f [] x h = absurd h
has_map f (y ∷ xs) x (inl e) = inl (ap f e)
has_map f (y ∷ xs) x (inr h) = inr (has_map f xs x h)

-- numbers
pub among_has : (n : ℕ) (xs : List ℕ) → Has xs n → is_among n xs ≡ true
among_has n [] h = absurd h
among_has n (x ∷ xs) (inl e) = or_left (n == x) (is_among n xs) (eq-eqb n x (sym e))
among_has n (x ∷ xs) (inr h) = or_right (n == x) (is_among n xs) (among_has n xs h)

pub has_among : (n : ℕ) (xs : List ℕ) → is_among n xs ≡ true → Has xs n
has_among n [] e = cc
has_among n (x ∷ xs) e = by_test (n == x) refl e (has_among n xs)
  where
    by_test : (b : Bool) → (n == x) ≡ b → (b || is_among n xs) ≡ true → (is_among n xs ≡ true → Has xs n) → Has (x ∷ xs) n
    by_test true q k next = inl (sym (eqb-true n x q))
    by_test false q k next = inr (next k)

-- what has the number of the first is not among the others
pub twice : {A : Type 0} (number : A → ℕ) (z : A) (xs : List A) (y : A) → are_distinct (map number (z ∷ xs)) ≡ true → number z ≡ number y → Has xs y → ⊥
twice number z xs y d e h =
    let f : is_among (number z) (map number xs) ≡ false = not_true (is_among (number z) (map number xs)) (and_parts (not (is_among (number z) (map number xs))) (are_distinct (map number xs)) d).0 in
    let t : is_among (number z) (map number xs) ≡ true = among_has (number z) (map number xs) (subst (λ n. Has (map number xs) n) (sym e) (has_map number xs y h)) in
    cc

-- two items with one number, where numbers are distinct
pub same_item : {A : Type 0} (number : A → ℕ) (xs : List A) (x y : A) → are_distinct (map number xs) ≡ true → Has xs x → Has xs y → number x ≡ number y → x ≡ y
same_item number [] x y d h k e = absurd h
same_item number (z ∷ xs) x y d (inl p) (inl q) e = sym p ∙ q
same_item number (z ∷ xs) x y d (inl p) (inr k) e = absurd (twice number z xs y d (ap number p ∙ e) k)
same_item number (z ∷ xs) x y d (inr h) (inl q) e = absurd (twice number z xs x d (ap number q ∙ sym e) h)
same_item number (z ∷ xs) x y d (inr h) (inr k) e = same_item number xs x y (and_parts (not (is_among (number z) (map number xs))) (are_distinct (map number xs)) d).1 h k e

-- the item that has a number is found by it
pub found_by : {A : Type 0} (number : A → ℕ) (xs : List A) (x : A) → are_distinct (map number xs) ≡ true → Has xs x → find (λ y. number y == number x) xs ≡ Some x
found_by number [] x d h = absurd h
found_by number (y ∷ xs) x d h = by_test (number y == number x) refl h (found_by number xs x (and_parts (not (is_among (number y) (map number xs))) (are_distinct (map number xs)) d).1)
  where
    by_test : (b : Bool) → (number y == number x) ≡ b → Has (y ∷ xs) x → (Has xs x → find (λ z. number z == number x) xs ≡ Some x)
        → (if b then Some y else find (λ z. number z == number x) xs) ≡ Some x
    by_test true q h next = ap Some (same_item number (y ∷ xs) y x d (inl refl) h (eqb-true (number y) (number x) q))
    by_test false q (inl e) next = absurd (let t : (number y == number x) ≡ true = eq-eqb (number y) (number x) (ap number e) in cc)
    by_test false q (inr h) next = next h

and_false : (b : Bool) → (b && false) ≡ false
and_false true = refl
and_false false = refl

-- what stands among numbers that a test lets through
pub among_filter : (p : ℕ → Bool) (n : ℕ) (xs : List ℕ) → is_among n (filter p xs) ≡ (is_among n xs && p n)
among_filter p n [] = refl
among_filter p n (x ∷ xs) = by_tests (p x) (n == x) refl refl (among_filter p n xs)
  where
    same : (b : Bool) → (n == x) ≡ true → p x ≡ b → p n ≡ b
    same b e q = ap p (eqb-true n x e) ∙ q

    by_tests : (b c : Bool) → p x ≡ b → (n == x) ≡ c → is_among n (filter p xs) ≡ (is_among n xs && p n)
        → is_among n (if b then x ∷ filter p xs else filter p xs) ≡ ((c || is_among n xs) && p n)
    by_tests true true q e k = rw e (sym (same true e q))
    by_tests true false q e k = rw e k
    by_tests false true q e k = k ∙ (ap (λ b. is_among n xs && b) (same false e q) ∙ (and_false (is_among n xs) ∙ sym (same false e q)))
    by_tests false false q e k = k
