-- What a binary search among ascending paths tells.
use Rattle.std.proofs.Common.{◌≡◌, ◌+◌, ℕ, true, List, get_or, length, Contains, Result, Ok, Err, is_ok, inl, inr, arith, refl, ap, sym, ◌∙◌}
use mathlib.Core.Bool.{true≢false}
use Rattle.std.specs.declared.cmp.Ordering.TheVariants.{Less, Greater}
use Rattle.std.specs.Ordering.{is_eq, is_lt, ordering_reverse}
use Rattle.std.specs.Cmp.{tied_itself}
use Rattle.std.specs.Cmp.Lexicographic.{nat_list_cmp_total}
use Rattle.std.specs.FinMap.{IsAntisymmetric, nat_cmp-IsAntisymmetric, slice_cmp-IsAntisymmetric}
use Rattle.std.specs.List.{AllWithin}
use Rattle.std.specs.List.Sorted.{IsBinarySearchResult, IsSearchInRange, IsSorted}
use Rattle.std.proofs.lemmas.Bool.Decides.{leb_tells}
use Rattle.std.proofs.lemmas.List.Sorted.{searchable_from_sorted}
use Rattle.luau_tree.specs.Sorted.{bytes_cmp, IsAscending}

-- bytes that tie are equal
pub same_bytes : IsAntisymmetric bytes_cmp
same_bytes = slice_cmp-IsAntisymmetric nat_cmp-IsAntisymmetric

-- ascending bytes are sorted
pub sorted_from_ascending : (xs : List (List ℕ)) → IsAscending xs → IsSorted bytes_cmp xs
sorted_from_ascending xs s k d low high =
    let less : bytes_cmp (get_or xs k d) (get_or xs (k + 1) d) ≡ Less = s k (k + 1) d (omega arith) high in
    ap is_lt (nat_list_cmp_total.antisymm (get_or xs (k + 1) d) (get_or xs k d) ∙ ap ordering_reverse less)

-- what is above all that stand before a place, and below all from there on, isn't there
nowhere : (xs : List (List ℕ)) (x : List ℕ) (i : ℕ) → AllWithin (λ y. bytes_cmp y x ≡ Less) xs 0 i → AllWithin (λ y. bytes_cmp y x ≡ Greater) xs i (length xs) → Contains xs x → ⊥
nowhere xs x i below above c =
    let tie : is_eq (bytes_cmp (get_or xs c.0 x) x) ≡ true = ap (λ y. is_eq (bytes_cmp y x)) c.2 ∙ ap is_eq (tied_itself nat_list_cmp_total x) in
    elim (leb_tells i c.0) [
      | inl t ↦ true≢false (sym tie ∙ ap is_eq (above c.0 x t.1 c.1))
      | inr t ↦ true≢false (sym tie ∙ ap is_eq (below c.0 x (omega arith) t.1))
    ]

-- what a binary search tells
pub found_path : (xs : List (List ℕ)) (x : List ℕ) (r : Result ℕ ℕ) → IsAscending xs → IsSearchInRange r (length xs) → IsBinarySearchResult (λ y. bytes_cmp y x) xs r → (is_ok r ≡ true → Contains xs x) × (Contains xs x → is_ok r ≡ true)
found_path xs x (Ok i) ascending range h = (λ e. (i, range, same_bytes (get_or xs i x) x (h x)), λ c. refl)
found_path xs x (Err i) ascending range h =
    let part = h (searchable_from_sorted nat_list_cmp_total (λ (p : List ℕ). p) xs x (sorted_from_ascending xs ascending)) in
    (λ e. absurd (true≢false (sym e)), λ c. absurd (nowhere xs x i part.0 part.1 c))
