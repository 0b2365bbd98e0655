-- Lists in order, by a test.
use Rattle.std.proofs.Common.{◌≡◌, ℕ, Bool, true, false, ◌&&◌, List, [], ◌∷◌, refl, arith}
use Rattle.std.specs.List.{AllByRecursion}
use Rattle.std.specs.List.Sorted.{IsStrictlySortedBy}
use Rattle.std.specs.declared.cmp.Ordering.{Ordering}
use Rattle.std.specs.declared.cmp.Ordering.TheVariants.{Less, Equal, Greater}
use Rattle.std.specs.Ordering.{is_lt}
use Rattle.std.proofs.lemmas.Map.Keys.{Less-from_sorted}
use Rattle.luau_tree.specs.Sorted.{bytes_cmp, IsAscending}
use Rattle.builtin_table.specs.Paths.{comes_before, ascends}

both_left : (x y : Bool) → (x && y) ≡ true → x ≡ true
both_left true y e = refl
both_left false y e = e

both_right : (x y : Bool) → (x && y) ≡ true → y ≡ true
both_right true y e = e
both_right false y e = grind (arith, e)

less_from : (o : Ordering) → is_lt o ≡ true → o ≡ Less
less_from Less e = refl
less_from Equal e = grind (arith, e)
less_from Greater e = grind (arith, e)

all_later : (x : List ℕ) (ys : List (List ℕ)) → comes_before x ys ≡ true → AllByRecursion (λ y. bytes_cmp x y ≡ Less) ys
all_later x [] e = tt
all_later x (y ∷ ys) e = (less_from (bytes_cmp x y) (both_left (is_lt (bytes_cmp x y)) (comes_before x ys) e), all_later x ys (both_right (is_lt (bytes_cmp x y)) (comes_before x ys) e))

sorted_from : (xs : List (List ℕ)) → ascends xs ≡ true → IsStrictlySortedBy bytes_cmp xs
unfolding IsStrictlySortedBy
sorted_from [] e = tt
sorted_from (x ∷ xs) e = (all_later x xs (both_left (comes_before x xs) (ascends xs) e), sorted_from xs (both_right (comes_before x xs) (ascends xs) e))

pub ascending_from : (xs : List (List ℕ)) → ascends xs ≡ true → IsAscending xs
ascending_from xs e = λ i j d. Less-from_sorted bytes_cmp xs i j d (sorted_from xs e)
