-- Fronts of a list that grow.
use Rattle.std.proofs.Common.{◌≡◌, ◌+◌, ◌&&◌, ℕ, Bool, true, false, List, ◌++◌, Some, None, length, take, drop, if◌then◌else◌, nat_eq, ap, sym, ◌∙◌}
use Rattle.std.specs.List.{starts_with}
use Rattle.std.specs.Cmp.Lexicographic.{same_text}
use Rattle.std.proofs.Math.Seq.{take-add, take-length}
use Rattle.outside.specs.Written.{Appends}

-- a front that matches so far and is followed by what is expected next still matches
pub front_grows : (expected chunk : List ℕ) (n : ℕ) → starts_with nat_eq (drop n expected) chunk ≡ true → take (n + length chunk) expected ≡ take n expected ++ chunk
front_grows expected chunk n e =
    let next : chunk ≡ take (length chunk) (drop n expected) = same_text chunk (take (length chunk) (drop n expected)) (sym e) in
    take-add n (length chunk) expected ∙ ap (λ rest. take n expected ++ rest) (sym next)

-- so a sink that compares tells the chunk that was appended
pub told_grows : (expected chunk : List ℕ) (n : ℕ) (matches : Bool) → (matches && starts_with nat_eq (drop n expected) chunk) ≡ true → Appends (if matches then Some (take n expected) else None) (if matches then Some (take (n + length chunk) expected) else None) (take (length chunk) chunk)
told_grows expected chunk n true e = front_grows expected chunk n e ∙ ap (λ p. take n expected ++ p) (sym (take-length chunk))
told_grows expected chunk n false e = tt
