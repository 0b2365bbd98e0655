-- Where a member goes in a list that is in order, and what the list is then.
use Rattle.std.proofs.Common.{◌≡◌, ℕ, zero, suc, ◌+◌, ◌<◌, ◌≤◌, List, [], ◌∷◌, ◌++◌, length, get_or, take, drop, refl, sym, ap, ◌∙◌, arith, add-one, drop-cons}
use Rattle.std.specs.Prelude.{Option, Some, None}
use Rattle.std.specs.List.{insert}
use Rattle.std.specs.declared.cmp.Ordering.{Ordering}
use Rattle.std.specs.declared.cmp.Ordering.TheVariants.{Less, Equal, Greater}
use Rattle.type_normal.specs.Members.{by_order, put, in_order}
use Rattle.type_ops.specs.Places.{later, place}
use Rattle.type_ops.specs.Sets.{put_all}

-- a list with a member at a place, if there is one
abbrev pub placed : {X : Type 0} → Option ℕ → X → List X → List X
placed None x ys = ys
placed (Some n) x ys = insert ys n x

placed_later : {X : Type 0} (p : Option ℕ) (x y : X) (ys : List X) → placed (later p) x (y ∷ ys) ≡ y ∷ placed p x ys
placed_later None x y ys = refl
placed_later (Some n) x y ys = refl

put_by : {X : Type 0} (cmp : X → X → Ordering) (x y : X) (ys : List X) (o : Ordering) → placed (place (cmp x) ys) x ys ≡ put cmp x ys
    → placed (by_order o (Some 0) None (later (place (cmp x) ys))) x (y ∷ ys) ≡ by_order o (x ∷ y ∷ ys) (y ∷ ys) (y ∷ put cmp x ys)
put_by cmp x y ys Less ih = refl
put_by cmp x y ys Equal ih = refl
put_by cmp x y ys Greater ih = placed_later (place (cmp x) ys) x y ys ∙ ap (λ zs. y ∷ zs) ih

pub put_placed : {X : Type 0} (cmp : X → X → Ordering) (x : X) (ys : List X) → placed (place (cmp x) ys) x ys ≡ put cmp x ys
put_placed cmp x [] = refl
put_placed cmp x (y ∷ ys) = put_by cmp x y ys (cmp x y) (put_placed cmp x ys)

pub put_at : {X : Type 0} (cmp : X → X → Ordering) (x : X) (ys : List X) (n : ℕ) → Some n ≡ place (cmp x) ys → insert ys n x ≡ put cmp x ys
put_at cmp x ys n e = ap (λ p. placed p x ys) e ∙ put_placed cmp x ys

pub put_nowhere : {X : Type 0} (cmp : X → X → Ordering) (x : X) (ys : List X) → None ≡ place (cmp x) ys → ys ≡ put cmp x ys
put_nowhere cmp x ys e = ap (λ p. placed p x ys) e ∙ put_placed cmp x ys

-- the place is within the list
abbrev Within : {X : Type 0} → Option ℕ → List X → Type 0
Within None ys = Unit {0}
Within (Some n) ys = n ≤ length ys

within_later : {X : Type 0} (p : Option ℕ) (y : X) (ys : List X) → Within p ys → Within (later p) (y ∷ ys)
within_later None y ys w = tt
within_later (Some n) y ys w = omega (arith, w)

within_by : {X : Type 0} (cmp : X → Ordering) (y : X) (ys : List X) (o : Ordering) → Within (place cmp ys) ys → Within (by_order o (Some 0) None (later (place cmp ys))) (y ∷ ys)
within_by cmp y ys Less w = omega arith
within_by cmp y ys Equal w = tt
within_by cmp y ys Greater w = within_later (place cmp ys) y ys w

place_is_within : {X : Type 0} (cmp : X → Ordering) (ys : List X) → Within (place cmp ys) ys
place_is_within cmp [] = omega arith
place_is_within cmp (y ∷ ys) = within_by cmp y ys (cmp y) (place_is_within cmp ys)

pub place_within : {X : Type 0} (cmp : X → Ordering) (ys : List X) (n : ℕ) → Some n ≡ place cmp ys → n ≤ length ys
place_within cmp ys n e = go (place cmp ys) e (place_is_within cmp ys)
  where
    go : (p : Option ℕ) → Some n ≡ p → Within p ys → n ≤ length ys
    go None e w = cc
    go (Some m) e w = let same : n ≡ m = cc in omega (arith, w, same)

-- a place that many members further on
abbrev pub moved : ℕ → Option ℕ → Option ℕ
moved i None = None
moved i (Some n) = Some (i + n)

pub moved_none : (p : Option ℕ) → p ≡ moved 0 p
moved_none None = refl
moved_none (Some n) = ap Some (omega arith)

moved_later : (i : ℕ) (p : Option ℕ) → moved i (later p) ≡ moved (i + 1) p
moved_later i None = refl
moved_later i (Some n) = ap Some (omega arith)

place_step : {X : Type 0} (cmp : X → Ordering) (ys : List X) (i : ℕ) (y : X) → i < length ys → y ≡ get_or ys i y
    → place cmp (drop i ys) ≡ by_order (cmp y) (Some 0) None (later (place cmp (drop (i + 1) ys)))
place_step cmp ys i y l is =
    ap (place cmp) (drop-cons ys i y l)
    ∙ ap (λ z. by_order (cmp z) (Some 0) None (later (place cmp (drop (suc i) ys)))) (sym is)
    ∙ ap (λ (n : ℕ). by_order (cmp y) (Some 0) None (later (place cmp (drop n ys)))) (sym (add-one i))

pub place_less : {X : Type 0} (cmp : X → Ordering) (ys : List X) (i : ℕ) (y : X) → i < length ys → y ≡ get_or ys i y → place cmp ys ≡ moved i (place cmp (drop i ys))
    → cmp y ≡ Less → Some i ≡ place cmp ys
place_less cmp ys i y l is so o =
    ap Some (omega arith) ∙ sym (so ∙ ap (moved i) (place_step cmp ys i y l is ∙ ap (λ (r : Ordering). by_order r (Some 0) None (later (place cmp (drop (i + 1) ys)))) o))

pub place_same : {X : Type 0} (cmp : X → Ordering) (ys : List X) (i : ℕ) (y : X) → i < length ys → y ≡ get_or ys i y → place cmp ys ≡ moved i (place cmp (drop i ys))
    → cmp y ≡ Equal → None ≡ place cmp ys
place_same cmp ys i y l is so o =
    sym (so ∙ ap (moved i) (place_step cmp ys i y l is ∙ ap (λ (r : Ordering). by_order r (Some 0) None (later (place cmp (drop (i + 1) ys)))) o))

pub place_more : {X : Type 0} (cmp : X → Ordering) (ys : List X) (i : ℕ) (y : X) → i < length ys → y ≡ get_or ys i y → place cmp ys ≡ moved i (place cmp (drop i ys))
    → cmp y ≡ Greater → place cmp ys ≡ moved (i + 1) (place cmp (drop (i + 1) ys))
place_more cmp ys i y l is so o =
    so ∙ ap (moved i) (place_step cmp ys i y l is ∙ ap (λ (r : Ordering). by_order r (Some 0) None (later (place cmp (drop (i + 1) ys)))) o)
    ∙ moved_later i (place cmp (drop (i + 1) ys))

drop_all : {X : Type 0} (ys : List X) → drop (length ys) ys ≡ []
drop_all [] = refl
drop_all (y ∷ ys) = drop_all ys

pub place_end : {X : Type 0} (cmp : X → Ordering) (ys : List X) → place cmp ys ≡ moved (length ys) (place cmp (drop (length ys) ys)) → Some (length ys) ≡ place cmp ys
place_end cmp ys so = ap Some (omega arith) ∙ sym (so ∙ ap (λ zs. moved (length ys) (place cmp zs)) (drop_all ys))

-- members that are put into a list one by one
pub put_all_last : {X : Type 0} (cmp : X → X → Ordering) (xs : List X) (x : X) (ys : List X) → put_all cmp (xs ++ x ∷ []) ys ≡ put_all cmp xs (put cmp x ys)
put_all_last cmp [] x ys = refl
put_all_last cmp (z ∷ xs) x ys = ap (put cmp z) (put_all_last cmp xs x ys)

pub put_all_nothing : {X : Type 0} (cmp : X → X → Ordering) (xs : List X) → put_all cmp xs [] ≡ in_order cmp xs
put_all_nothing cmp [] = refl
put_all_nothing cmp (x ∷ xs) = ap (put cmp x) (put_all_nothing cmp xs)

pub put_all_both : {X : Type 0} (cmp : X → X → Ordering) (xs ys : List X) → put_all cmp xs (in_order cmp ys) ≡ in_order cmp (xs ++ ys)
put_all_both cmp [] ys = refl
put_all_both cmp (x ∷ xs) ys = ap (put cmp x) (put_all_both cmp xs ys)
