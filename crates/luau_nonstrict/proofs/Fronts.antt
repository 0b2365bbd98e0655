-- Fronts that leave a reader one after the other.
use Rattle.std.proofs.Common.{◌+◌, ◌≤◌, ℕ, List, ◌++◌, Option, None, Some, length, ap, sym, ◌∙◌, append_assoc, arith}
use Rattle.std.proofs.lemmas.List.{length-append}
use Rattle.std.specs.Io.KnownBytes.{Consumes}
use Rattle.luau_nonstrict.specs.Moved.{LosesAtMost, Moves}

consumed : (first second third : Option (List ℕ)) (xs ys : List ℕ) → Consumes first second xs → Consumes second third ys → Consumes first third (xs ++ ys)
consumed None second third xs ys a b = tt
consumed (Some all) None third xs ys a b = absurd a
consumed (Some all) (Some rest) None xs ys a b = absurd b
consumed (Some all) (Some rest) (Some last) xs ys a b = a ∙ ap (λ l. xs ++ l) b ∙ sym (append_assoc xs ys last)

-- what moved so far and what is lost then are lost
pub loses : (first second third : Option (List ℕ)) (done : List ℕ) (left at_most : ℕ) → length done + left ≤ at_most → Consumes first second done → LosesAtMost second third left → LosesAtMost first third at_most
loses first second third done left at_most within taken lost = (done ++ lost.0, omega (arith, length-append done lost.0, lost.1), consumed first second third done lost.0 taken lost.2)

-- what moves then has moved
pub moves_on : (first second third : Option (List ℕ)) (done more : List ℕ) (left at_most : ℕ) → length done + left ≤ at_most → Consumes first second done → Moves second third done more left → Consumes first third more × (length more ≤ at_most)
moves_on first second third done more left at_most within taken moved =
    (rw moved.1 (consumed first second third done moved.0 taken moved.3), rw moved.1 (omega (arith, length-append done moved.0, moved.2)))
