-- What a sink that compares tells after a chunk.
use Rattle.std.proofs.Common.{◌≡◌, ◌+◌, ◌≤◌, ◌&&◌, ℕ, zero, suc, Bool, true, false, List, [], ◌∷◌, ◌++◌, Some, None, length, take, drop, if◌then◌else◌, nat_eq, refl, ap, sym, ◌∙◌, arith}
use Rattle.std.specs.List.{starts_with}
use Rattle.std.specs.Cmp.Lexicographic.{pointwise}
use Rattle.std.proofs.lemmas.Bool.{eq-eqb}
use Rattle.outside.specs.SureSink.{told_after}
use Rattle.outside.proofs.Fronts.{front_grows}

-- a front and a chunk are a front where the chunk is a front of the rest
front_then : (xs chunk : List ℕ) (n : ℕ) → n ≤ length xs → starts_with nat_eq xs (take n xs ++ chunk) ≡ starts_with nat_eq (drop n xs) chunk
front_then xs chunk zero h = refl
front_then [] chunk (suc n) h = absurd (omega arith)
front_then (x ∷ xs) chunk (suc n) h = ap (λ b. b && pointwise nat_eq (take n xs ++ chunk) (take (length (take n xs ++ chunk)) xs)) (eq-eqb x x refl) ∙ front_then xs chunk n (omega arith)

-- what is expected next is told
pub told-next : (expected chunk : List ℕ) (n : ℕ) (matches : Bool) → n ≤ length expected → (matches && starts_with nat_eq (drop n expected) chunk) ≡ true → (if matches then Some (take (n + length chunk) expected) else None) ≡ told_after expected (if matches then Some (take n expected) else None) chunk
told-next expected chunk n false h e = refl
told-next expected chunk n true h e =
    ap Some (front_grows expected chunk n e) ∙ ap (λ fits. if fits then Some (take n expected ++ chunk) else None) (sym (front_then expected chunk n h ∙ e))

-- from what isn't, nothing is told
pub told-other : (expected chunk : List ℕ) (n : ℕ) (matches : Bool) → n ≤ length expected → (matches && starts_with nat_eq (drop n expected) chunk) ≡ false → None ≡ told_after expected (if matches then Some (take n expected) else None) chunk
told-other expected chunk n false h e = refl
told-other expected chunk n true h e = ap (λ fits. if fits then Some (take n expected ++ chunk) else None) (sym (front_then expected chunk n h ∙ e))
