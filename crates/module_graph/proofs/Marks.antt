-- Marks once open modules are closed.
use Rattle.std.proofs.Common.{◌≡◌, ◌≢◌, ℕ, zero, suc, ◌+◌, ◌<◌, ◌≤◌, List, [], ◌∷◌, Bool, true, false, length, refl, ap, sym, subst, ◌∙◌, arith, inl, inr}
use Rattle.std.specs.Prelude.{Some, None, Option, option_map, map, slice_get, ◌⊎◌, nat_le, if◌then◌else◌}
use Rattle.std.proofs.lemmas.Option.{slice_get-map}
use Rattle.std.proofs.lemmas.Bool.{leb-true, leb-false}
use Rattle.std.proofs.lemmas.Bool.Decides.{nat_tests}
use Rattle.module_graph.specs.declared.search.Mark.{Mark}
use Rattle.module_graph.specs.declared.search.Mark.TheVariants.{New, Open, Closed}
use Rattle.module_graph.specs.Search.{close_mark}

-- an open module before the place stays open
pub close_mark-before : (start number at next : ℕ) → at < start → close_mark start number (Open at next) ≡ Open at next
close_mark-before start number at next lt = go (nat_le start at) refl
  where
    go : (test : Bool) → nat_le start at ≡ test → close_mark start number (Open at next) ≡ Open at next
    go true e = absurd (grind (arith, nat_tests))
    go false e = ap (λ (b : Bool). if b then Closed number else Open at next) e

-- one from the place on is closed
pub close_mark-from : (start number at next : ℕ) → start ≤ at → close_mark start number (Open at next) ≡ Closed number
close_mark-from start number at next le = go (nat_le start at) refl
  where
    go : (test : Bool) → nat_le start at ≡ test → close_mark start number (Open at next) ≡ Closed number
    go true e = ap (λ (b : Bool). if b then Closed number else Open at next) e
    go false e = absurd (grind (arith, nat_tests))

-- what the mark was
pub close_mark-open : (start number : ℕ) (mark : Mark) (at next : ℕ) → close_mark start number mark ≡ Open at next → (at < start) × (mark ≡ Open at next)
close_mark-open start number New at next e = cc
close_mark-open start number (Closed n) at next e = cc
close_mark-open start number (Open a n) at next e = go (nat_le start a) refl
  where
    go : (test : Bool) → nat_le start a ≡ test → (at < start) × (Open a n ≡ Open at next)
    go true t = let closed : close_mark start number (Open a n) ≡ Closed number = ap (λ (b : Bool). if b then Closed number else Open a n) t in cc
    go false t =
        let same : close_mark start number (Open a n) ≡ Open a n = ap (λ (b : Bool). if b then Closed number else Open a n) t in
        let marks : Open a n ≡ Open at next = sym same ∙ e in
        let places : a ≡ at = cc in
        let lt : a < start = grind (arith, nat_tests) in
        (omega arith, marks)

pub close_mark-closed : (start number : ℕ) (mark : Mark) (n : ℕ) → close_mark start number mark ≡ Closed n → (mark ≡ Closed n) ⊎ ((at next : ℕ) × (mark ≡ Open at next) × (start ≤ at) × (n ≡ number))
close_mark-closed start number New n e = cc
close_mark-closed start number (Closed m) n e = inl e
close_mark-closed start number (Open a k) n e = go (nat_le start a) refl
  where
    go : (test : Bool) → nat_le start a ≡ test → (Open a k ≡ Closed n) ⊎ ((at next : ℕ) × (Open a k ≡ Open at next) × (start ≤ at) × (n ≡ number))
    go true t =
        let closed : close_mark start number (Open a k) ≡ Closed number = ap (λ (b : Bool). if b then Closed number else Open a k) t in
        let le : start ≤ a = grind (arith, nat_tests) in
        inr (a, k, refl, le, cc)
    go false t = let same : close_mark start number (Open a k) ≡ Open a k = ap (λ (b : Bool). if b then Closed number else Open a k) t in cc

pub close_mark-new : (start number : ℕ) (mark : Mark) → close_mark start number mark ≡ New → mark ≡ New
close_mark-new start number New e = refl
close_mark-new start number (Closed m) e = cc
close_mark-new start number (Open a k) e = go (nat_le start a) refl
  where
    go : (test : Bool) → nat_le start a ≡ test → Open a k ≡ New
    go true t = let closed : close_mark start number (Open a k) ≡ Closed number = ap (λ (b : Bool). if b then Closed number else Open a k) t in cc
    go false t = let same : close_mark start number (Open a k) ≡ Open a k = ap (λ (b : Bool). if b then Closed number else Open a k) t in cc

-- an item of a list of marks that are rewritten
pub slice_get-mapped : (f : Mark → Mark) (marks : List Mark) (x : ℕ) (mark : Mark) → slice_get (map f marks) x ≡ Some mark → (was : Mark) × (slice_get marks x ≡ Some was) × (f was ≡ mark)
slice_get-mapped f [] x mark e = cc
slice_get-mapped f (m ∷ marks) zero mark e = (m, refl, cc)
slice_get-mapped f (m ∷ marks) (suc x) mark e = slice_get-mapped f marks x mark e

pub mapped-at : (f : Mark → Mark) (marks : List Mark) (x : ℕ) (mark : Mark) → slice_get marks x ≡ Some mark → slice_get (map f marks) x ≡ Some (f mark)
mapped-at f marks x mark e = slice_get-map f marks x ∙ ap (option_map f) e

module _ (marks : List Mark) (start number x : ℕ) where
  pub stays_open : (at next : ℕ) → slice_get marks x ≡ Some (Open at next) → at < start → slice_get (map (close_mark start number) marks) x ≡ Some (Open at next)
  stays_open at next e lt = mapped-at (close_mark start number) marks x (Open at next) e ∙ ap Some (close_mark-before start number at next lt)

  pub becomes_closed : (at next : ℕ) → slice_get marks x ≡ Some (Open at next) → start ≤ at → slice_get (map (close_mark start number) marks) x ≡ Some (Closed number)
  becomes_closed at next e le = mapped-at (close_mark start number) marks x (Open at next) e ∙ ap Some (close_mark-from start number at next le)

  pub stays_closed : (n : ℕ) → slice_get marks x ≡ Some (Closed n) → slice_get (map (close_mark start number) marks) x ≡ Some (Closed n)
  stays_closed n e = mapped-at (close_mark start number) marks x (Closed n) e

  pub was_open : (at next : ℕ) → slice_get (map (close_mark start number) marks) x ≡ Some (Open at next) → (at < start) × (slice_get marks x ≡ Some (Open at next))
  was_open at next e =
      let h = slice_get-mapped (close_mark start number) marks x (Open at next) e in
      let g = close_mark-open start number h.0 at next h.2 in
      (g.0, h.1 ∙ ap Some g.1)

  pub was_closed : (n : ℕ) → slice_get (map (close_mark start number) marks) x ≡ Some (Closed n) → (slice_get marks x ≡ Some (Closed n)) ⊎ ((at next : ℕ) × (slice_get marks x ≡ Some (Open at next)) × (start ≤ at) × (n ≡ number))
  was_closed n e =
      let h = slice_get-mapped (close_mark start number) marks x (Closed n) e in
      elim (close_mark-closed start number h.0 n h.2) [
        | inl same ↦ inl (h.1 ∙ ap Some same)
        | inr g ↦ inr (g.0, g.1, h.1 ∙ ap Some g.2, g.3, g.4)
      ]

  pub was_new : slice_get (map (close_mark start number) marks) x ≡ Some New → slice_get marks x ≡ Some New
  was_new e =
      let h = slice_get-mapped (close_mark start number) marks x New e in
      h.1 ∙ ap Some (close_mark-new start number h.0 h.2)
