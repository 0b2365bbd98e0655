-- Items of lists at their places.
use Rattle.std.proofs.Common.{◌≡◌, ◌≢◌, ℕ, zero, suc, ◌+◌, ◌<◌, ◌≤◌, List, [], ◌∷◌, ◌++◌, length, take, drop, refl, ap, sym, subst, ◌∙◌, arith, inl, inr, length-append}
use Rattle.std.specs.Prelude.{Some, None, slice_get, slice_set, Contains, ◌⊎◌}
use Rattle.std.proofs.lemmas.Option.{slice_get_within, slice_get-get_or, get_or_from_slice_get}
use Rattle.std.proofs.Common.{get_or, append_assoc, ◌-◌}
use Rattle.std.specs.Prelude.{Option, option_to_list, is_some, nat_lt, unwrap_or}
use Rattle.std.proofs.lemmas.Bool.{cases_lt, eqb-true, eqb-false}
use Rattle.std.specs.Option.{option_eq}
use Rattle.std.specs.List.{list_any}
use Rattle.std.specs.Prelude.{Bool, ◌||◌}
use Rattle.std.specs.Prelude.{Result, Ok, Err, OnOk, IfOk, map, nat_eq, true, false}
use Rattle.std.proofs.lemmas.Bool.Decides.{nat_tests}
use Rattle.std.proofs.lemmas.Option.{slice_get_past}
use Rattle.module_graph.specs.declared.node.Node.{Node}
use Rattle.module_graph.specs.Requires.{calls_at}
use Rattle.module_graph.specs.Search.{Has, Rises, last_of}

-- an item stays where it is when more go behind
pub slice_get-front : {X : Type 0} (xs ys : List X) (i : ℕ) (x : X) → slice_get xs i ≡ Some x → slice_get (xs ++ ys) i ≡ Some x
slice_get-front [] ys i x e = cc
slice_get-front (z ∷ xs) ys zero x e = e
slice_get-front (z ∷ xs) ys (suc i) x e = slice_get-front xs ys i x e

-- the items behind stand after the length of the front
pub slice_get-behind : {X : Type 0} (xs ys : List X) (k : ℕ) (x : X) → slice_get ys k ≡ Some x → slice_get (xs ++ ys) (length xs + k) ≡ Some x
slice_get-behind {X = X} [] ys k x e = let same : length {A = X} [] + k ≡ k = omega arith in ap (λ i. slice_get ys i) same ∙ e
slice_get-behind (z ∷ xs) ys k x e =
    let same : length (z ∷ xs) + k ≡ suc (length xs + k) = omega arith in
    ap (λ i. slice_get (z ∷ (xs ++ ys)) i) same ∙ slice_get-behind xs ys k x e

-- an item of two lists in a row is of the one or of the other
pub slice_get-append_cases : {X : Type 0} (xs ys : List X) (i : ℕ) (x : X) → slice_get (xs ++ ys) i ≡ Some x → (slice_get xs i ≡ Some x) ⊎ ((k : ℕ) × (i ≡ length xs + k) × (slice_get ys k ≡ Some x))
slice_get-append_cases [] ys i x e = inr (i, omega arith, e)
slice_get-append_cases (z ∷ xs) ys zero x e = inl e
slice_get-append_cases (z ∷ xs) ys (suc i) x e =
    elim (slice_get-append_cases xs ys i x e) [ inl h ↦ inl h | inr h ↦ inr (h.0, (let at : i ≡ length xs + h.0 = h.1 in omega arith), h.2) ]

-- the last item
pub slice_get-last : {X : Type 0} (xs : List X) (x : X) → slice_get (xs ++ x ∷ []) (length xs) ≡ Some x
slice_get-last [] x = refl
slice_get-last (z ∷ xs) x = slice_get-last xs x

-- an item of a list with one more last is an earlier one, or that
pub slice_get-push_cases : {X : Type 0} (xs : List X) (y : X) (i : ℕ) (x : X) → slice_get (xs ++ y ∷ []) i ≡ Some x → (slice_get xs i ≡ Some x) ⊎ ((i ≡ length xs) × (x ≡ y))
slice_get-push_cases [] y zero x e = inr (refl, cc)
slice_get-push_cases [] y (suc i) x e = cc
slice_get-push_cases (z ∷ xs) y zero x e = inl e
slice_get-push_cases (z ∷ xs) y (suc i) x e =
    elim (slice_get-push_cases xs y i x e) [ inl h ↦ inl h | inr h ↦ inr (ap suc h.0, h.1) ]

-- an item that is written
pub slice_get-set_same : {X : Type 0} (xs : List X) (i : ℕ) (v x : X) → slice_get xs i ≡ Some x → slice_get (slice_set xs i v) i ≡ Some v
slice_get-set_same [] i v x e = cc
slice_get-set_same (z ∷ xs) zero v x e = refl
slice_get-set_same (z ∷ xs) (suc i) v x e = slice_get-set_same xs i v x e

-- and any other
pub slice_get-set_other : {X : Type 0} (xs : List X) (i : ℕ) (v : X) (j : ℕ) → j ≢ i → slice_get (slice_set xs i v) j ≡ slice_get xs j
slice_get-set_other [] i v j differ = refl
slice_get-set_other (z ∷ xs) zero v zero differ = absurd (differ refl)
slice_get-set_other (z ∷ xs) zero v (suc j) differ = refl
slice_get-set_other (z ∷ xs) (suc i) v zero differ = refl
slice_get-set_other (z ∷ xs) (suc i) v (suc j) differ = slice_get-set_other xs i v j (λ e. differ (ap suc e))

pub slice_get-set_cases : {X : Type 0} (xs : List X) (i : ℕ) (v : X) (j : ℕ) (w : X) → slice_get (slice_set xs i v) j ≡ Some w → ((j ≡ i) × (w ≡ v)) ⊎ ((j ≢ i) × (slice_get xs j ≡ Some w))
slice_get-set_cases [] i v j w e = cc
slice_get-set_cases (z ∷ xs) zero v zero w e = inl (refl, cc)
slice_get-set_cases (z ∷ xs) zero v (suc j) w e = inr ((λ same. omega arith), e)
slice_get-set_cases (z ∷ xs) (suc i) v zero w e = inr ((λ same. omega arith), e)
slice_get-set_cases (z ∷ xs) (suc i) v (suc j) w e =
    elim (slice_get-set_cases xs i v j w e) [ inl h ↦ inl (ap suc h.0, h.1) | inr h ↦ inr ((λ same. h.0 (omega arith)), h.1) ]

-- an item of a front
pub slice_get-take : {X : Type 0} (xs : List X) (n i : ℕ) (x : X) → slice_get (take n xs) i ≡ Some x → (i < n) × (slice_get xs i ≡ Some x)
slice_get-take [] zero i x e = cc
slice_get-take [] (suc n) i x e = cc
slice_get-take (z ∷ xs) zero i x e = cc
slice_get-take (z ∷ xs) (suc n) zero x e = (omega arith, e)
slice_get-take (z ∷ xs) (suc n) (suc i) x e = let h = slice_get-take xs n i x e in (omega arith, h.1)

pub slice_get-taken : {X : Type 0} (xs : List X) (n i : ℕ) (x : X) → i < n → slice_get xs i ≡ Some x → slice_get (take n xs) i ≡ Some x
slice_get-taken [] n i x lt e = cc
slice_get-taken (z ∷ xs) zero i x lt e = absurd (omega arith)
slice_get-taken (z ∷ xs) (suc n) zero x lt e = e
slice_get-taken (z ∷ xs) (suc n) (suc i) x lt e = slice_get-taken xs n i x (omega arith) e

-- an item behind a front
pub slice_get-drop : {X : Type 0} (xs : List X) (n i : ℕ) → slice_get (drop n xs) i ≡ slice_get xs (n + i)
slice_get-drop xs zero i = let same : 0 + i ≡ i = omega arith in ap (λ k. slice_get xs k) (sym same)
slice_get-drop [] (suc n) i = refl
slice_get-drop (z ∷ xs) (suc n) i =
    let same : suc n + i ≡ suc (n + i) = omega arith in
    slice_get-drop xs n i ∙ ap (λ k. slice_get (z ∷ xs) k) (sym same)

-- a list has an item exactly where it has it at some place
pub Contains-from_get : {X : Type 0} (xs : List X) (k : ℕ) (x : X) → slice_get xs k ≡ Some x → Contains xs x
Contains-from_get xs k x e = (k, slice_get_within xs k x e, get_or_from_slice_get xs k x x e)

pub get-from_contains : {X : Type 0} (xs : List X) (x : X) → Contains xs x → (k : ℕ) × (slice_get xs k ≡ Some x)
get-from_contains xs x h = (h.0, slice_get-get_or xs h.0 x h.1 ∙ ap Some h.2)

-- each place below the length has an item
pub get-below : {X : Type 0} (xs : List X) (k : ℕ) → k < length xs → (x : X) × (slice_get xs k ≡ Some x)
get-below [] k lt = absurd (omega arith)
get-below (x ∷ xs) zero lt = (x, refl)
get-below (x ∷ xs) (suc k) lt = get-below xs k (omega arith)

pub Has-front : (xs ys : List ℕ) (x : ℕ) → Has xs x → Has (xs ++ ys) x
Has-front xs ys x h = (h.0, slice_get-front xs ys h.0 x h.1)

pub Has-behind : (xs ys : List ℕ) (x : ℕ) → Has ys x → Has (xs ++ ys) x
Has-behind xs ys x h = (length xs + h.0, slice_get-behind xs ys h.0 x h.1)

pub Has-cases : (xs ys : List ℕ) (x : ℕ) → Has (xs ++ ys) x → Has xs x ⊎ Has ys x
Has-cases xs ys x h = elim (slice_get-append_cases xs ys h.0 x h.1) [ inl e ↦ inl (h.0, e) | inr e ↦ inr (e.0, e.2) ]

pub Has-last : (xs : List ℕ) (x : ℕ) → Has (xs ++ x ∷ []) x
Has-last xs x = (length xs, slice_get-last xs x)

pub Has-push_cases : (xs : List ℕ) (y x : ℕ) → Has (xs ++ y ∷ []) x → Has xs x ⊎ (x ≡ y)
Has-push_cases xs y x h = elim (slice_get-push_cases xs y h.0 x h.1) [ inl e ↦ inl (h.0, e) | inr e ↦ inr e.1 ]

-- a rising list with a higher number last rises
pub Rises-push : (xs : List ℕ) (y : ℕ) → Rises xs → ((x : ℕ) → Has xs x → x < y) → Rises (xs ++ y ∷ [])
Rises-push xs y rises below i j a b lt ei ej =
    elim (slice_get-push_cases xs y i a ei) [
      | inl hi ↦ elim (slice_get-push_cases xs y j b ej) [
        | inl hj ↦ rises i j a b lt hi hj
        | inr hj ↦ let h = below a (i, hi) in let e = hj.1 in omega arith
      ]
      | inr hi ↦ elim (slice_get-push_cases xs y j b ej) [
        | inl hj ↦ let w = slice_get_within xs j b hj in let e = hi.0 in absurd (omega arith)
        | inr hj ↦ let e = hi.0 in let f = hj.0 in absurd (omega arith)
      ]
    ]

-- a front of a rising list rises
pub Rises-front : (xs ys : List ℕ) → Rises (xs ++ ys) → Rises xs
Rises-front xs ys rises i j a b lt ei ej = rises i j a b lt (slice_get-front xs ys i a ei) (slice_get-front xs ys j b ej)

-- what stands before the last number of a rising list is below it
pub Rises-below : (xs : List ℕ) (y x : ℕ) → Rises (xs ++ y ∷ []) → Has xs x → x < y
Rises-below xs y x rises h = rises h.0 (length xs) x y (slice_get_within xs h.0 x h.1) (slice_get-front xs (y ∷ []) h.0 x h.1) (slice_get-last xs y)

pub Rises-top : (xs : List ℕ) (y x : ℕ) → Rises (xs ++ y ∷ []) → Has (xs ++ y ∷ []) x → x ≤ y
Rises-top xs y x rises h = elim (Has-push_cases xs y x h) [ inl e ↦ (let lt = Rises-below xs y x rises e in omega arith) | inr e ↦ omega arith ]

-- the requires of a module that is read by its index
pub calls_at-index : (nodes : List Node) (file : ℕ) (node : Node) → node ≡ get_or nodes file node → file < length nodes → calls_at nodes file ≡ node.calls
calls_at-index [] file node e lt = absurd (omega arith)
calls_at-index (n ∷ nodes) zero node e lt = ap (λ (k : Node). k.calls) (sym e)
calls_at-index (n ∷ nodes) (suc file) node e lt = calls_at-index nodes file node e (omega arith)

-- each module has its requires
pub calls_at-get : (nodes : List Node) (file : ℕ) (node : Node) → slice_get nodes file ≡ Some node → calls_at nodes file ≡ node.calls
calls_at-get [] file node e = cc
calls_at-get (n ∷ nodes) zero node e = let same : n ≡ node = cc in ap (λ (k : Node). k.calls) same
calls_at-get (n ∷ nodes) (suc file) node e = calls_at-get nodes file node e

-- the last number of a rising list is the highest
pub Rises-highest : (xs : List ℕ) (y : ℕ) → Rises xs → slice_get xs (length xs - 1) ≡ Some y → (x : ℕ) → Has xs x → x ≤ y
Rises-highest xs y rises last x h =
    let within : h.0 < length xs = slice_get_within xs h.0 x h.1 in
    elim (cases_lt h.0 (length xs - 1)) [
      | inl before ↦ (let lt : x < y = rises h.0 (length xs - 1) x y before h.1 last in omega arith)
      | inr at ↦
          (let same : h.0 ≡ length xs - 1 = omega arith in
          let both : Some x ≡ Some y = sym h.1 ∙ (ap (λ i. slice_get xs i) same ∙ last) in
          let one : x ≡ y = cc in
          omega arith)
    ]

-- one more start is dropped
pub Merges-more : (before now next dropped : List ℕ) (at start : ℕ) (r : Option ℕ) → before ≡ now ++ dropped → now ≡ next ++ option_to_list r → r ≡ Some start → at < start → ((p : ℕ) → Has dropped p → at < p) → (x : List ℕ) × (before ≡ next ++ x) × ((p : ℕ) → Has x p → at < p)
Merges-more before now next dropped at start None parted popped found above high = cc
Merges-more before now next dropped at start (Some y) parted popped found above high =
    let same : y ≡ start = cc in
    (y ∷ dropped, parted ∙ (ap (λ l. l ++ dropped) popped ∙ append_assoc next (y ∷ []) dropped), (λ p has. behind p same has.0 has.1))
  where
    behind : (p : ℕ) → y ≡ start → (k : ℕ) → slice_get (y ∷ dropped) k ≡ Some p → at < p
    behind p same zero e = let one : y ≡ p = cc in omega arith
    behind p same (suc k) e = high p (k, e)

-- an item that is read, if there is one
pub read-item : {X : Type 0} (xs : List X) (i : ℕ) (r : Option X) → is_some r ≡ nat_lt i (length xs) → ((d : X) → unwrap_or r d ≡ get_or xs i d) → r ≡ slice_get xs i
read-item xs i None there value = let past : length xs ≤ i = grind (arith, nat_tests) in sym (slice_get_past xs i past)
read-item xs i (Some x) there value =
    let within : i < length xs = grind (arith, nat_tests) in
    let same : x ≡ get_or xs i x = value x in
    ap Some same ∙ sym (slice_get-get_or xs i x within)

-- what `pop` gives and leaves of a list with this last number
pub popped-last : (xs ys : List ℕ) (r : Option ℕ) (y n : ℕ) → n ≡ length xs → xs ≡ ys ++ option_to_list r → (0 < n → r ≡ Some (get_or xs (n - 1) 0)) → last_of xs ≡ Some y → (r ≡ Some y) × (xs ≡ ys ++ y ∷ [])
popped-last xs ys r y n size items value last =
    let within : length xs - 1 < length xs = slice_get_within xs (length xs - 1) y last in
    let at : r ≡ Some (get_or xs (n - 1) 0) = value (omega arith) in
    let found : get_or xs (length xs - 1) 0 ≡ y = get_or_from_slice_get xs (length xs - 1) y 0 last in
    let some : r ≡ Some y = at ∙ ap Some (ap (λ k. get_or xs (k - 1) 0) size ∙ found) in
    (some, items ∙ ap (λ o. ys ++ option_to_list o) some)

-- past the items there is none
pub get-none : {X : Type 0} (xs : List X) (k : ℕ) → slice_get xs k ≡ None → length xs ≤ k
get-none xs k e = elim (cases_lt k (length xs)) [ inl lt ↦ (let h = get-below xs k lt in cc) | inr le ↦ le ]

-- an option that isn't any value is none
pub none-from_not : {X : Type 0} (o : Option X) → ((x : X) → o ≡ Some x → ⊥) → o ≡ None
none-from_not None differs = refl
none-from_not (Some x) differs = absurd (differs x refl)

-- what follows from what holds where a call went well
pub OnOk-then : {T E P Q : Type 0} (r : Result T E) → OnOk r P → (P → Q) → OnOk r Q
OnOk-then (Ok x) holds then = then holds
OnOk-then (Err e) holds then = tt

-- tests of an option against a value
pub same-option : (o : Option ℕ) (y : ℕ) → option_eq nat_eq o (Some y) ≡ true → o ≡ Some y
same-option None y e = cc
same-option (Some x) y e = ap Some (eqb-true x y e)

pub other-option : (o : Option ℕ) (y : ℕ) → option_eq nat_eq o (Some y) ≡ false → o ≡ Some y → ⊥
other-option None y e same = cc
other-option (Some x) y e same = let one : x ≡ y = cc in eqb-false x y e one

-- a number that is found in a list by a test
pub Has-number : (xs : List ℕ) (q : ℕ) → list_any (nat_eq q) xs ≡ true → Has xs q
Has-number [] q e = cc
Has-number (x ∷ xs) q e = go (nat_eq q x) refl (λ rest. Has-number xs q rest)
  where
    go : (test : Bool) → nat_eq q x ≡ test → (list_any (nat_eq q) xs ≡ true → Has xs q) → Has (x ∷ xs) q
    go true t further = let same : q ≡ x = eqb-true q x t in (0, ap Some (sym same))
    go false t further = let h = further (sym (ap (λ b. b || list_any (nat_eq q) xs) t) ∙ e) in (suc h.0, h.1)

-- a front by its length
pub take-front : {X : Type 0} (xs ys : List X) (n : ℕ) → n ≡ length xs → take n (xs ++ ys) ≡ xs
take-front xs ys n size = ap (λ k. take k (xs ++ ys)) size ∙ go xs ys
  where
    go : {X : Type 0} (xs ys : List X) → take (length xs) (xs ++ ys) ≡ xs
    go [] ys = refl
    go (x ∷ xs) ys = ap (λ l. x ∷ l) (go xs ys)

-- an item of a list that is rewritten
pub slice_get-mapped_from : {X Y : Type 0} (f : X → Y) (xs : List X) (k : ℕ) (y : Y) → slice_get (map f xs) k ≡ Some y → (x : X) × (slice_get xs k ≡ Some x) × (f x ≡ y)
slice_get-mapped_from f [] k y e = cc
slice_get-mapped_from f (x ∷ xs) zero y e = (x, refl, cc)
slice_get-mapped_from f (x ∷ xs) (suc k) y e = slice_get-mapped_from f xs k y e

-- what follows from what holds of the value of a call that went well
pub IfOk-then : {T E : Type 0} {P Q : T → Type 0} (r : Result T E) → IfOk r P → ((x : T) → P x → Q x) → IfOk r Q
IfOk-then (Ok x) holds then = then x holds
IfOk-then (Err e) holds then = tt
