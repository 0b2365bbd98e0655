-- What a binary search among paths in order tells.
use Rattle.std.proofs.Common.{◌<◌, false, get_or, length, arith, Result, Ok, Err, is_ok, inl, inr, ◌≡◌, ℕ, true, Bool, List, refl, ap, sym, ◌∙◌}
use Rattle.std.specs.declared.cmp.Ordering.TheVariants.{Less, Equal, Greater}
use Rattle.std.specs.Ordering.{is_eq}
use Rattle.std.specs.Cmp.Lexicographic.{nat_list_cmp_total}
use Rattle.std.specs.List.{AllWithin, list_any}
use Rattle.std.specs.List.Sorted.{IsBinarySearchResult, IsSearchInRange, IsSorted}
use mathlib.Core.Bool.{true≢false}
use Rattle.std.specs.Str.{bytes_eq}
use Rattle.std.proofs.lemmas.Bool.Decides.{leb_tells}
use Rattle.std.proofs.lemmas.List.Folds.{Any-from_list_any, list_any_at}
use Rattle.std.proofs.lemmas.Map.Text.{is_eq-slice_cmp}
use Rattle.std.proofs.lemmas.List.Sorted.{searchable_from_sorted}
use Rattle.luau_tree.specs.Sorted.{bytes_cmp}

-- an element that is equal in the order is there
present : (xs : List (List ℕ)) (x : List ℕ) (i : ℕ) → i < length xs → ((d : List ℕ) → bytes_cmp (get_or xs i d) x ≡ Equal) → true ≡ list_any (λ y. bytes_eq y x) xs
present xs x i h e = sym (list_any_at (λ y. bytes_eq y x) xs i x h (sym (is_eq-slice_cmp (get_or xs i x) x) ∙ ap is_eq (e x)))

-- none that is smaller or greater is it
absent : (xs : List (List ℕ)) (x : List ℕ) (i : ℕ) → AllWithin (λ y. bytes_cmp y x ≡ Less) xs 0 i → AllWithin (λ y. bytes_cmp y x ≡ Greater) xs i (length xs) → (b : Bool) → list_any (λ y. bytes_eq y x) xs ≡ b → false ≡ list_any (λ y. bytes_eq y x) xs
absent xs x i below above false e = sym e
absent xs x i below above true e =
    let a = Any-from_list_any (λ y. bytes_eq y x) xs e in
    let tie : is_eq (bytes_cmp (get_or xs a.0 a.1) x) ≡ true = is_eq-slice_cmp (get_or xs a.0 a.1) x ∙ ap (λ y. bytes_eq y x) a.3 ∙ a.4 in
    elim (leb_tells i a.0) [
      | inl t ↦ absurd (true≢false (sym tie ∙ ap is_eq (above a.0 a.1 t.1 a.2)))
      | inr t ↦ absurd (true≢false (sym tie ∙ ap is_eq (below a.0 a.1 (omega arith) t.1)))
    ]

-- what a binary search tells
pub found : (xs : List (List ℕ)) (x : List ℕ) (r : Result ℕ ℕ) → IsSorted bytes_cmp xs → IsSearchInRange r (length xs) → IsBinarySearchResult (λ y. bytes_cmp y x) xs r → is_ok r ≡ list_any (λ y. bytes_eq y x) xs
found xs x (Ok i) sorted range h = present xs x i range h
found xs x (Err i) sorted range h =
    let part = h (searchable_from_sorted nat_list_cmp_total (λ (p : List ℕ). p) xs x sorted) in
    absent xs x i part.0 part.1 (list_any (λ y. bytes_eq y x) xs) refl
