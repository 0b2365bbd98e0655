-- Facts on names in order: an insertion keeps the order and adds one name alone.
use Rattle.std.proofs.Common.{◌≡◌, ℕ, zero, suc, List, [], ◌∷◌, Option, Some, None, ◌⊎◌, inl, inr, ⊎_elim, ◌↔◌, AllPairs, Contains, refl, sym, ◌∙◌, ap, subst, arith}
use Rattle.std.specs.List.{filter_map, cons_option, AllByRecursion}
use Rattle.std.specs.List.Sorted.{IsStrictlySortedBy}
use Rattle.std.specs.BTreeSet.{insert_key}
use Rattle.std.specs.Cmp.{IsTotalOrder}
use Rattle.std.specs.FinMap.{nat_cmp-IsAntisymmetric, slice_cmp-IsAntisymmetric}
use Rattle.std.specs.Ordering.{match_ordering, ordering_reverse}
use Rattle.std.specs.declared.cmp.Ordering.{Ordering}
use Rattle.std.specs.declared.cmp.Ordering.TheVariants.{Less, Equal, Greater}
use Rattle.std.proofs.lemmas.Cmp.{nat_list_cmp_total}
use Rattle.std.proofs.lemmas.Map.Keys.{Less-from_sorted}
use Rattle.luau_values.specs.Start.{name_cmp, in_order, library_of, libraries}

further : {X : Type 0} (y : X) (ys : List X) (x : X) → Contains ys x → Contains (y ∷ ys) x
further y ys x c = (suc c.0, omega (arith, c.1), c.2)

here : {X : Type 0} (x : X) (xs : List X) → Contains (x ∷ xs) x
here x xs = (zero, omega arith, refl)

head_or_tail : {X : Type 0} (y : X) (ys : List X) (x : X) → Contains (y ∷ ys) x → (y ≡ x) ⊎ Contains ys x
head_or_tail y ys x (zero, l, e) = inl e
head_or_tail y ys x (suc k, l, e) = inr (k, omega (arith, l), e)

module _ {K : Type 0} {R : K → K → Ordering} (o : IsTotalOrder R) (exact : (a b : K) → R a b ≡ Equal → a ≡ b) where
  above_insert : (x k : K) (xs : List K) → R x k ≡ Less → AllByRecursion (λ y. R x y ≡ Less) xs → AllByRecursion (λ y. R x y ≡ Less) (insert_key R xs k)
  above_insert x k [] h a = (h, tt)
  above_insert x k (y ∷ ys) h a =
      elim (R k y) as (λ r. AllByRecursion (λ z. R x z ≡ Less) (match_ordering r (k ∷ y ∷ ys) (y ∷ ys) (y ∷ insert_key R ys k))) [
        | Less ↦ (h, a)
        | Equal ↦ a
        | Greater ↦ (a.0, above_insert x k ys h a.1)
      ]

  below_each : (k x : K) (xs : List K) → R k x ≡ Less → AllByRecursion (λ y. R x y ≡ Less) xs → AllByRecursion (λ y. R k y ≡ Less) xs
  below_each k x [] h a = tt
  below_each k x (y ∷ ys) h a = (o.trans k x y h a.0, below_each k x ys h a.1)

  turned : (k x : K) → R k x ≡ Greater → R x k ≡ Less
  turned k x e = o.antisymm x k ∙ ap ordering_reverse e

  sorted_insert : (xs : List K) (k : K) → IsStrictlySortedBy R xs → IsStrictlySortedBy R (insert_key R xs k)
  unfolding IsStrictlySortedBy
  sorted_insert [] k s = (tt, tt)
  sorted_insert (x ∷ xs) k s =
      elim (R k x) as (λ r. R k x ≡ r → IsStrictlySortedBy R (match_ordering r (k ∷ x ∷ xs) (x ∷ xs) (x ∷ insert_key R xs k))) [
        | Less ↦ λ e. ((e, below_each k x xs e s.0), s)
        | Equal ↦ λ e. s
        | Greater ↦ λ e. (above_insert x k xs (turned k x e) s.0, sorted_insert xs k s.1)
      ] refl

  put_in : (xs : List K) (k : K) → Contains (insert_key R xs k) k
  put_in [] k = here k []
  put_in (x ∷ xs) k =
      elim (R k x) as (λ r. R k x ≡ r → Contains (match_ordering r (k ∷ x ∷ xs) (x ∷ xs) (x ∷ insert_key R xs k)) k) [
        | Less ↦ λ e. here k (x ∷ xs)
        | Equal ↦ λ e. (zero, omega arith, sym (exact k x e))
        | Greater ↦ λ e. further x (insert_key R xs k) k (put_in xs k)
      ] refl

  still_in : (xs : List K) (k q : K) → Contains xs q → Contains (insert_key R xs k) q
  still_in [] k q c = absurd (omega (arith, c.1))
  still_in (x ∷ xs) k q c =
      elim (R k x) as (λ r. Contains (match_ordering r (k ∷ x ∷ xs) (x ∷ xs) (x ∷ insert_key R xs k)) q) [
        | Less ↦ further k (x ∷ xs) q c
        | Equal ↦ c
        | Greater ↦
            ⊎_elim (λ e. (zero, omega arith, e)) (λ d. further x (insert_key R xs k) q (still_in xs k q d)) (head_or_tail x xs q c)
      ]

  no_more : (xs : List K) (k q : K) → Contains (insert_key R xs k) q → (k ≡ q) ⊎ Contains xs q
  no_more [] k q c = head_or_tail k [] q c
  no_more (x ∷ xs) k q c =
      elim (R k x) as (λ r. Contains (match_ordering r (k ∷ x ∷ xs) (x ∷ xs) (x ∷ insert_key R xs k)) q → (k ≡ q) ⊎ Contains (x ∷ xs) q) [
        | Less ↦ λ d. head_or_tail k (x ∷ xs) q d
        | Equal ↦ λ d. inr d
        | Greater ↦ λ d. ⊎_elim
            (λ e. inr (zero, omega arith, e))
            (λ m. ⊎_elim (λ e. inl e) (λ n. inr (further x xs q n)) (no_more xs k q m))
            (head_or_tail x (insert_key R xs k) q d)
      ] c

exact_names : (a b : List ℕ) → name_cmp a b ≡ Equal → a ≡ b
exact_names = slice_cmp-IsAntisymmetric nat_cmp-IsAntisymmetric

sorted_names : (names : List (List ℕ)) → IsStrictlySortedBy name_cmp (in_order names)
unfolding IsStrictlySortedBy
sorted_names [] = tt
sorted_names (name ∷ names) = sorted_insert nat_list_cmp_total exact_names (in_order names) name (sorted_names names)

pub names_rise : (names : List (List ℕ)) → AllPairs (λ a b. name_cmp a b ≡ Less) (in_order names)
names_rise names i j d below within = Less-from_sorted name_cmp (in_order names) i j d (sorted_names names) below within

all_there : (names : List (List ℕ)) (q : List ℕ) → Contains names q → Contains (in_order names) q
all_there [] q c = c
all_there (name ∷ names) q c = ⊎_elim
    (λ e. subst (Contains (insert_key name_cmp (in_order names) name)) e (put_in nat_list_cmp_total exact_names (in_order names) name))
    (λ d. still_in nat_list_cmp_total exact_names (in_order names) name q (all_there names q d))
    (head_or_tail name names q c)

none_else : (names : List (List ℕ)) (q : List ℕ) → Contains (in_order names) q → Contains names q
none_else [] q c = c
none_else (name ∷ names) q c = ⊎_elim
    (λ e. (zero, omega arith, e))
    (λ d. further name names q (none_else names q d))
    (no_more nat_list_cmp_total exact_names (in_order names) name q c)

-- a library that some path stands in
abbrev pub IsLibraryOf : List (List ℕ) → List ℕ → Type 0
IsLibraryOf paths library = (path : List ℕ) × Contains paths path × (library_of path ≡ Some library)

later : (path : List ℕ) (paths : List (List ℕ)) (library : List ℕ) → IsLibraryOf paths library → IsLibraryOf (path ∷ paths) library
later path paths library (p, d, e) = (p, further path paths p d, e)

named_first : (path : List ℕ) (paths : List (List ℕ)) (library : List ℕ) (o : Option (List ℕ)) → library_of path ≡ o
    → Contains (cons_option o (filter_map library_of paths)) library → (Contains (filter_map library_of paths) library → IsLibraryOf paths library)
    → IsLibraryOf (path ∷ paths) library
named_first path paths library None h c ih = later path paths library (ih c)
named_first path paths library (Some l) h c ih = ⊎_elim
    (λ e. (path, here path paths, h ∙ ap Some e))
    (λ d. later path paths library (ih d))
    (head_or_tail l (filter_map library_of paths) library c)

named_by : (paths : List (List ℕ)) (library : List ℕ) → Contains (filter_map library_of paths) library → IsLibraryOf paths library
named_by [] library c = absurd (omega (arith, c.1))
named_by (path ∷ paths) library c = named_first path paths library (library_of path) refl c (λ d. named_by paths library d)

kept_behind : (o : Option (List ℕ)) (names : List (List ℕ)) (library : List ℕ) → Contains names library → Contains (cons_option o names) library
kept_behind None names library c = c
kept_behind (Some l) names library c = further l names library c

put_first : (o : Option (List ℕ)) (names : List (List ℕ)) (library : List ℕ) → o ≡ Some library → Contains (cons_option o names) library
put_first None names library e = cc
put_first (Some l) names library e = let k : l ≡ library = cc in (zero, omega arith, k)

names_it : (paths : List (List ℕ)) (library path : List ℕ) → Contains paths path → library_of path ≡ Some library → Contains (filter_map library_of paths) library
names_it [] library path c e = absurd (omega (arith, c.1))
names_it (p ∷ paths) library path c e = ⊎_elim
    (λ h. put_first (library_of p) (filter_map library_of paths) library (ap library_of h ∙ e))
    (λ d. kept_behind (library_of p) (filter_map library_of paths) library (names_it paths library path d e))
    (head_or_tail p paths path c)

pub libraries_rise : (paths : List (List ℕ)) → AllPairs (λ a b. name_cmp a b ≡ Less) (libraries paths)
libraries_rise paths = names_rise (filter_map library_of paths)

pub libraries_are : (paths : List (List ℕ)) (library : List ℕ) → Contains (libraries paths) library ↔ IsLibraryOf paths library
libraries_are paths library = (
  λ c. named_by paths library (none_else (filter_map library_of paths) library c),
  λ p. all_there (filter_map library_of paths) library (names_it paths library p.0 p.1 p.2),
)
