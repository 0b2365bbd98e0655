-- Lists in strict order: an insertion, the members, that the members determine the list, and what sorting and dropping
-- repeats makes of values.
use Rattle.std.proofs.Common.{◌≡◌, Bool, true, false, ◌||◌, ◌+◌, List, [], ◌∷◌, get_or, Contains, AllPairs, arith, refl, sym, ap, ◌∙◌, subst}
use mathlib.Core.Bool.{true≢false}
use Rattle.std.specs.declared.cmp.Ordering.{Ordering}
use Rattle.std.specs.declared.cmp.Ordering.TheVariants.{Less, Equal, Greater}
use Rattle.std.specs.Ordering.{eq_by_cmp, is_eq, is_lt, match_ordering, ordering_reverse}
use Rattle.std.specs.Cmp.{IsTotalOrder, alike_right, tied_itself, both_ways, eq_by_cmp_equiv, Equal-is}
use Rattle.std.specs.BTreeSet.{insert_key}
use Rattle.std.specs.List.{dedup, list_any, AllByRecursion}
use Rattle.std.specs.List.Sorted.{IsPermutation, IsSorted, IsStrictlySortedBy}
use Rattle.std.specs.FinMap.{IsAntisymmetric}
use Rattle.std.proofs.lemmas.List.Folds.{Any-from_list_any, list_any_at}
use Rattle.std.proofs.lemmas.List.Kept.{IsStrictlySortedBy-dedup, Contains-dedup, Contains-from_dedup}
use Rattle.std.proofs.lemmas.List.Sorted.{Contains-permutation, IsPermutation-sym}
use Rattle.std.proofs.lemmas.Map.Keys.{Less-from_sorted, sorted_from_all_adjacent}
use Rattle.luau_tree.specs.Sorted.{sorted_by}

-- whether a member of xs ties with q
abbrev has : {K : Type 0} → (K → K → Ordering) → List K → K → Bool
has R xs q = list_any (eq_by_cmp R q) xs

-- steps of tests joined by `||`
swapped : (a b c : Bool) → (a || (b || c)) ≡ (b || (a || c))
swapped true true c = refl
swapped true false c = refl
swapped false b c = refl

repeated : (a b c : Bool) → a ≡ b → (b || c) ≡ (a || (b || c))
repeated true true c e = refl
repeated true false c e = absurd (true≢false e)
repeated false b c e = refl

or_of : (a b c d : Bool) → a ≡ b → c ≡ d → (a || c) ≡ (b || d)
or_of a b c d p q = λ i. p i || q i

module _ {K : Type 0} {R : K → K → Ordering} (o : IsTotalOrder R) where
  -- what is below a key and below each of xs is below each once the key is put in
  above_insert : (x k : K) (xs : List K) → R x k ≡ Less → AllByRecursion (λ y. R x y ≡ Less) xs → AllByRecursion (λ y. R x y ≡ Less) (insert_key R xs k)
  above_insert x k [] h a = (h, tt)
  above_insert x k (y ∷ ys) h a =
      elim (R k y) as (λ r. AllByRecursion (λ z. R x z ≡ Less) (match_ordering r (k ∷ y ∷ ys) (y ∷ ys) (y ∷ insert_key R ys k))) [
        | Less ↦ (h, a)
        | Equal ↦ a
        | Greater ↦ (a.0, above_insert x k ys h a.1)
      ]

  -- what is below the first is below each
  below_each : (k x : K) (xs : List K) → R k x ≡ Less → AllByRecursion (λ y. R x y ≡ Less) xs → AllByRecursion (λ y. R k y ≡ Less) xs
  below_each k x [] h a = tt
  below_each k x (y ∷ ys) h a = (o.trans k x y h a.0, below_each k x ys h a.1)

  -- what is above a key has the key below it
  turned : (k x : K) → R k x ≡ Greater → R x k ≡ Less
  turned k x e = o.antisymm x k ∙ ap ordering_reverse e

  -- an insertion keeps the order
  sorted_insert : (xs : List K) (k : K) → IsStrictlySortedBy R xs → IsStrictlySortedBy R (insert_key R xs k)
  unfolding IsStrictlySortedBy
  sorted_insert [] k s = (tt, tt)
  sorted_insert (x ∷ xs) k s =
      elim (R k x) as (λ r. R k x ≡ r → IsStrictlySortedBy R (match_ordering r (k ∷ x ∷ xs) (x ∷ xs) (x ∷ insert_key R xs k))) [
        | Less ↦ λ e. ((e, below_each k x xs e s.0), s)
        | Equal ↦ λ e. s
        | Greater ↦ λ e. (above_insert x k xs (turned k x e) s.0, sorted_insert xs k s.1)
      ] refl

  -- an insertion adds that member alone
  has-insert : (xs : List K) (k q : K) → has R (insert_key R xs k) q ≡ (eq_by_cmp R q k || has R xs q)
  has-insert [] k q = refl
  has-insert (x ∷ xs) k q =
      elim (R k x) as (λ r. R k x ≡ r → has R (match_ordering r (k ∷ x ∷ xs) (x ∷ xs) (x ∷ insert_key R xs k)) q ≡ (eq_by_cmp R q k || (eq_by_cmp R q x || has R xs q))) [
        | Less ↦ λ e. refl
        | Equal ↦ λ e. repeated (eq_by_cmp R q k) (eq_by_cmp R q x) (has R xs q) (ap is_eq (alike_right o k x q e))
        | Greater ↦ λ e. ap (λ b. eq_by_cmp R q x || b) (has-insert xs k q) ∙ swapped (eq_by_cmp R q x) (eq_by_cmp R q k) (has R xs q)
      ] refl

  -- what is below each of xs is none of them
  none_above : (q : K) (xs : List K) → AllByRecursion (λ y. R q y ≡ Less) xs → has R xs q ≡ false
  none_above q [] a = refl
  none_above q (y ∷ ys) a = or_of (eq_by_cmp R q y) false (has R ys q) false (ap is_eq a.0) (none_above q ys a.1)

  -- the first is a member
  has_itself : (x : K) (xs : List K) → has R (x ∷ xs) x ≡ true
  has_itself x xs = ap (λ r. is_eq r || has R xs x) (tied_itself o x)

  -- what is below the first of a list in order is no member
  none_below : (q x : K) (xs : List K) → R q x ≡ Less → IsStrictlySortedBy R (x ∷ xs) → has R (x ∷ xs) q ≡ false
  unfolding IsStrictlySortedBy
  none_below q x xs h s = none_above q (x ∷ xs) (h, below_each q x xs h s.0)

  -- lists in order whose first members tie have the same members after these
  rest_alike : (x y : K) (xs ys : List K) → R x y ≡ Equal → IsStrictlySortedBy R (x ∷ xs) → IsStrictlySortedBy R (y ∷ ys) → ((q : K) → has R (x ∷ xs) q ≡ has R (y ∷ ys) q) → (q : K) → has R xs q ≡ has R ys q
  unfolding IsStrictlySortedBy
  rest_alike x y xs ys e s t same q =
      elim (R q x) as (λ r. R q x ≡ r → has R xs q ≡ has R ys q) [
        | Less ↦ λ h. part h (λ b. refl)
        | Equal ↦ λ h. none q x xs h s.0 ∙ sym (none q y ys (o.congr q x y h ∙ e) t.0)
        | Greater ↦ λ h. part h (λ b. refl)
      ] refl
    where
      none : (q x : K) (xs : List K) → R q x ≡ Equal → AllByRecursion (λ z. R x z ≡ Less) xs → has R xs q ≡ false
      none q x [] h a = refl
      none q x (z ∷ zs) h a = or_of (eq_by_cmp R q z) false (has R zs q) false (ap is_eq (o.congr q x z h ∙ a.0)) (none q x zs h a.1)

      part : {r : Ordering} → R q x ≡ r → ((b : Bool) → (is_eq r || b) ≡ b) → has R xs q ≡ has R ys q
      part {r} h other =
          let left : has R (x ∷ xs) q ≡ has R xs q = ap (λ s. is_eq s || has R xs q) h ∙ other (has R xs q) in
          let right : has R (y ∷ ys) q ≡ has R ys q = ap (λ s. is_eq s || has R ys q) (sym (alike_right o x y q e) ∙ h) ∙ other (has R ys q) in
          sym left ∙ same q ∙ right

  -- two lists in order with the same members are equal, where only equal members tie
  only_one : IsAntisymmetric R → (xs ys : List K) → IsStrictlySortedBy R xs → IsStrictlySortedBy R ys → ((q : K) → has R xs q ≡ has R ys q) → xs ≡ ys
  unfolding IsStrictlySortedBy
  only_one equal [] [] s t same = refl
  only_one equal [] (y ∷ ys) s t same = absurd (true≢false (sym (has_itself y ys) ∙ sym (same y)))
  only_one equal (x ∷ xs) [] s t same = absurd (true≢false (sym (has_itself x xs) ∙ same x))
  only_one equal (x ∷ xs) (y ∷ ys) s t same =
      elim (R x y) as (λ r. R x y ≡ r → x ∷ xs ≡ y ∷ ys) [
        | Less ↦ λ e. absurd (true≢false (sym (has_itself x xs) ∙ same x ∙ none_below x y ys e t))
        | Equal ↦ λ e.
            let rest : xs ≡ ys = only_one equal xs ys s.1 t.1 (rest_alike x y xs ys e s t same) in
            λ i. equal x y e i ∷ rest i
        | Greater ↦ λ e. absurd (true≢false (sym (has_itself y ys) ∙ sym (same y) ∙ none_below y x xs (turned x y e) s))
      ] refl

  -- a member ties with itself
  has-from_Contains : (xs : List K) (q : K) → Contains xs q → has R xs q ≡ true
  has-from_Contains xs q c = list_any_at (eq_by_cmp R q) xs c.0 q c.1 (ap (λ y. is_eq (R q y)) c.2 ∙ ap is_eq (tied_itself o q))

  -- only equal members tie
  Contains-from_has : IsAntisymmetric R → (xs : List K) (q : K) → has R xs q ≡ true → Contains xs q
  Contains-from_has equal xs q h =
      let a = Any-from_list_any (eq_by_cmp R q) xs h in
      let same : a.1 ≡ q = sym (equal q a.1 (is_tie (R q a.1) a.4)) in
      (a.0, a.2, subst (λ z. get_or xs a.0 z ≡ z) same a.3)
    where
      is_tie : (r : Ordering) → is_eq r ≡ true → r ≡ Equal
      is_tie Less e = absurd (true≢false (sym e))
      is_tie Equal e = refl
      is_tie Greater e = absurd (true≢false (sym e))

  -- two lists that contain the same have the same members
  has_alike : IsAntisymmetric R → (xs ys : List K) → ((q : K) → Contains xs q → Contains ys q) → ((q : K) → Contains ys q → Contains xs q) → (q : K) → has R xs q ≡ has R ys q
  has_alike equal xs ys there back q = both_ways (has R xs q) (has R ys q) (λ h. has-from_Contains ys q (there q (Contains-from_has equal xs q h))) (λ h. has-from_Contains xs q (back q (Contains-from_has equal ys q h)))

  sorted_strictly : (xs : List K) → IsStrictlySortedBy R (sorted_by R xs)
  unfolding IsStrictlySortedBy
  sorted_strictly [] = tt
  sorted_strictly (x ∷ xs) = sorted_insert (sorted_by R xs) x (sorted_strictly xs)

  -- sorted values have the members of the values
  has-sorted : (xs : List K) (q : K) → has R (sorted_by R xs) q ≡ has R xs q
  has-sorted [] q = refl
  has-sorted (x ∷ xs) q = has-insert (sorted_by R xs) x q ∙ ap (λ b. eq_by_cmp R q x || b) (has-sorted xs q)

  -- what a sort and a `dedup` leave
  pub sorted_and_deduped : IsAntisymmetric R → (xs moved : List K) → IsPermutation xs moved → IsSorted R moved → dedup (eq_by_cmp R) moved ≡ sorted_by R xs
  sorted_and_deduped exact xs moved p s =
      let equal : (a b : K) → eq_by_cmp R a b ≡ true → a ≡ b = λ a b e. exact a b ((Equal-is (R a b)).0 e) in
      let there : (q : K) → Contains (dedup (eq_by_cmp R) moved) q → Contains xs q = λ q c. Contains-permutation moved xs q (IsPermutation-sym xs moved p) (Contains-from_dedup (eq_by_cmp R) moved q c) in
      let back : (q : K) → Contains xs q → Contains (dedup (eq_by_cmp R) moved) q = λ q c. Contains-dedup (eq_by_cmp_equiv o) equal moved q (Contains-permutation xs moved q p c) in
      only_one exact (dedup (eq_by_cmp R) moved) (sorted_by R xs) (IsStrictlySortedBy-dedup o (λ a b. refl) moved s) (sorted_strictly xs) (λ q. has_alike exact (dedup (eq_by_cmp R) moved) xs there back q ∙ sym (has-sorted xs q))

  -- the laws of sorted values, by places
  pub in_order : (xs : List K) → AllPairs (λ a b. R a b ≡ Less) (sorted_by R xs)
  in_order xs i j d below within = Less-from_sorted R (sorted_by R xs) i j d (sorted_strictly xs) below within

  -- no value stands before a smaller one
  pub sorted_by-IsSorted : (xs : List K) → IsSorted R (sorted_by R xs)
  sorted_by-IsSorted xs k d low high =
      let less : R (get_or (sorted_by R xs) k d) (get_or (sorted_by R xs) (k + 1) d) ≡ Less = in_order xs k (k + 1) d (omega arith) high in
      ap is_lt (o.antisymm (get_or (sorted_by R xs) (k + 1) d) (get_or (sorted_by R xs) k d) ∙ ap ordering_reverse less)

  pub all_there : IsAntisymmetric R → (xs : List K) (x : K) → Contains xs x → Contains (sorted_by R xs) x
  all_there exact xs x c = Contains-from_has exact (sorted_by R xs) x (has-sorted xs x ∙ has-from_Contains xs x c)

  pub no_other : IsAntisymmetric R → (xs : List K) (x : K) → Contains (sorted_by R xs) x → Contains xs x
  no_other exact xs x c = Contains-from_has exact xs x (sym (has-sorted xs x) ∙ has-from_Contains (sorted_by R xs) x c)

  from_pairs : (ys : List K) → AllPairs (λ a b. R a b ≡ Less) ys → IsStrictlySortedBy R ys
  unfolding IsStrictlySortedBy
  from_pairs [] s = tt
  from_pairs (y ∷ ys) s = sorted_from_all_adjacent o (y ∷ ys) y (λ k within. s k (k + 1) y (omega arith) within)

  pub determined : IsAntisymmetric R → (xs ys : List K) → AllPairs (λ a b. R a b ≡ Less) ys → ((q : K) → Contains ys q → Contains xs q) → ((q : K) → Contains xs q → Contains ys q) → ys ≡ sorted_by R xs
  determined exact xs ys s there back = only_one exact ys (sorted_by R xs) (from_pairs ys s) (sorted_strictly xs) (λ q. has_alike exact ys xs there back q ∙ sym (has-sorted xs q))
