-- What is said of the tokens of a text up to the fault that is told.
use Rattle.std.specs.Prelude.{◌≡◌, ℕ, List, [], ◌∷◌, ◌++◌}
use Rattle.luau_lex.specs.Tokens.{Tok}
use Rattle.fault_places.specs.Faults.{IsFront, IsAmbiguous}

-- Behind some tokens, each of these makes a front with those before it, and begins no arguments on a later line.
abbrev pub AreFronts : List ℕ → List Tok → List Tok → Type 0
AreFronts text front [] = Unit {0}
AreFronts text front (t ∷ ts) = IsFront front t × (IsAmbiguous text front t → ⊥) × AreFronts text (front ++ t ∷ []) ts

-- A token begins at an offset, those before it are such fronts, and this holds of them and of it.
abbrev pub StandsAt : List ℕ → List Tok → ℕ → (List Tok → Tok → Type 0) → Type 0
StandsAt text ts at Holds =
    (front : List Tok) × (t : Tok) × (behind : List Tok) × (ts ≡ front ++ t ∷ behind) × (t.span.start ≡ at)
    × AreFronts text [] front × Holds front t
