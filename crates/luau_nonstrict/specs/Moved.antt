-- Bytes that move from a reader to a list.
use Rattle.std.specs.Prelude.{◌≡◌, ◌≤◌, ℕ, List, ◌++◌, Option, IfSome, length, take}
use Rattle.std.specs.Io.KnownBytes.{Consumes}

-- a front of what a reader gives, of at most so many bytes, left it and stands at the end of a list
abbrev pub Moves : Option (List ℕ) → Option (List ℕ) → List ℕ → List ℕ → ℕ → Type 0
Moves before after old new at_most =
    (front : List ℕ) × (new ≡ old ++ front) × (length front ≤ at_most) × Consumes before after front

-- a reader lost at most so many bytes from the front of what it gives
abbrev pub LosesAtMost : Option (List ℕ) → Option (List ℕ) → ℕ → Type 0
LosesAtMost before after at_most =
    (front : List ℕ) × (length front ≤ at_most) × Consumes before after front

-- the bytes are the first ones of some file, where it is known what that file holds
abbrev pub IsFront : {File : Type 0} → (File → Option (List ℕ)) → ℕ → List ℕ → Type 0
IsFront {File} remaining at_most bytes =
    (file : File) × IfSome (remaining file) (λ all. bytes ≡ take at_most all)
