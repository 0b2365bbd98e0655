-- Files of lower levels come earlier.
use Rattle.std.proofs.Common.{◌≡◌, ℕ, zero, suc, ◌+◌, ◌<◌, Bool, true, false, List, [], ◌∷◌, ◌++◌, length, refl, ap, subst, ◌∙◌, arith, inl, inr}
use Rattle.std.specs.Prelude.{Option, Some, option_map, ◌==◌, slice_get, if◌then◌else◌}
use Rattle.std.proofs.lemmas.Bool.{eqb-true, eq-eqb}
use Rattle.module_graph.proofs.Lists.{slice_get-append_cases}
use Rattle.folder_plan.specs.Order.{joined, place_of}

-- a file of a list has a place in it, and the same place where more stands behind
place_in_front : (list rest : List ℕ) (k file : ℕ) → slice_get list k ≡ Some file → (p : ℕ) × (place_of file (list ++ rest) ≡ Some p) × (p < length list)
place_in_front [] rest k file e = absurd (cc)
place_in_front (other ∷ list) rest k file e = by_test (other == file) refl k e (λ j h. place_in_front list rest j file h)
  where
    by_test : (b : Bool) → (other == file) ≡ b → (k : ℕ) → slice_get (other ∷ list) k ≡ Some file
        → ((j : ℕ) → slice_get list j ≡ Some file → (p : ℕ) × (place_of file (list ++ rest) ≡ Some p) × (p < length list))
        → (p : ℕ) × ((if b then Some 0 else option_map suc (place_of file (list ++ rest))) ≡ Some p) × (p < length (other ∷ list))
    by_test true is k e later = (0, refl, omega arith)
    by_test false is zero e later = let same : (other == file) ≡ true = eq-eqb other file (cc) in absurd (cc)
    by_test false is (suc k) e later =
        let found = later k e in
        let less : found.0 < length list = found.2 in
        (suc found.0, ap (λ (o : Option ℕ). option_map suc o) found.1, omega (arith, less))

-- a file that is not in a list has its place behind it
place_behind : (list rest : List ℕ) (file p : ℕ) → ((k : ℕ) → slice_get list k ≡ Some file → ⊥) → place_of file rest ≡ Some p
    → place_of file (list ++ rest) ≡ Some (length list + p)
place_behind [] rest file p n e = e ∙ ap (λ (i : ℕ). Some i) (omega arith)
place_behind (other ∷ list) rest file p n e = by_test (other == file) refl (place_behind list rest file p (λ k. n (suc k)) e)
  where
    by_test : (b : Bool) → (other == file) ≡ b → place_of file (list ++ rest) ≡ Some (length list + p) → (if b then Some 0 else option_map suc (place_of file (list ++ rest))) ≡ Some (length (other ∷ list) + p)
    by_test true is later = absurd (n 0 (ap (λ (i : ℕ). Some i) (eqb-true other file is)))
    by_test false is later =
        ap (λ (o : Option ℕ). option_map suc o) later
        ∙ ap (λ (i : ℕ). Some i) (omega arith)

-- where each file of a list of levels has one level, a file of a lower level comes before one of a higher level
module _ (At : ℕ → ℕ → Type 0) (one : (file m n : ℕ) → At file m → At file n → m ≡ n) where
  pub lower_is_earlier : (levels : List (List ℕ)) (base : ℕ)
      → ((n k file : ℕ) (list : List ℕ) → slice_get levels n ≡ Some list → slice_get list k ≡ Some file → At file (base + n))
      → (low high n higher at : ℕ) (list : List ℕ) → slice_get levels n ≡ Some list → slice_get list at ≡ Some low → At high higher → base + n < higher
      → (k : ℕ) → slice_get (joined levels) k ≡ Some high → (p : ℕ) × (place_of low (joined levels) ≡ Some p) × (p < k)
  lower_is_earlier [] base listed low high n higher at list e h t less k found = absurd (cc)
  lower_is_earlier (first ∷ levels) base listed low high zero higher at list e h t less k found =
      let same : first ≡ list = cc in
      let place = place_in_front first (joined levels) at low (ap (λ (l : List ℕ). slice_get l at) same ∙ h) in
      let before : place.0 < length first = place.2 in (
        place.0,
        place.1,
        elim (slice_get-append_cases first (joined levels) k high found) [
          | inl here ↦
              let level : higher ≡ base + 0 = one high higher (base + 0) t (listed 0 k high first refl here) in
              absurd (let more : base + 0 < higher = less in omega (arith, level, more))
          | inr behind ↦ (let is : k ≡ length first + behind.0 = behind.1 in omega (arith, is, before))
        ],
      )
  lower_is_earlier (first ∷ levels) base listed low high (suc n) higher at list e h t less k found =
      elim (slice_get-append_cases first (joined levels) k high found) [
        | inl here ↦
            let level : higher ≡ base + 0 = one high higher (base + 0) t (listed 0 k high first refl here) in
            absurd (let more : base + suc n < higher = less in omega (arith, level, more))
        | inr behind ↦
            let next = lower_is_earlier levels (suc base)
            (λ m j file l in_levels in_list. shifted file base m (listed (suc m) j file l in_levels in_list))
            low high n higher at list e h t (let more : base + suc n < higher = less in omega (arith, more)) behind.0 behind.2 in
            let is : k ≡ length first + behind.0 = behind.1 in
            let before : next.0 < behind.0 = next.2 in
            (length first + next.0, place_behind first (joined levels) low next.0 (apart e h) next.1, omega (arith, is, before))
      ]
    where
      shifted : (file base m : ℕ) → At file (base + suc m) → At file (suc base + m)
      shifted file base m a = subst (λ (i : ℕ). At file i) (omega arith) a

      apart : slice_get levels n ≡ Some list → slice_get list at ≡ Some low → (j : ℕ) → slice_get first j ≡ Some low → ⊥
      apart e h j in_first =
          let level : base + 0 ≡ base + suc n = one low (base + 0) (base + suc n) (listed 0 j low first refl in_first) (listed (suc n) at low list e h) in
          omega (arith, level)
