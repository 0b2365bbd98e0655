-- Tokens in the order of a text.
use Rattle.std.specs.Prelude.{◌≡◌, ◌+◌, ◌⊎◌, ℕ, List, [], ◌∷◌}
use Rattle.luau_lex.specs.Tokens.{Tok}
use Rattle.grammar_faults.specs.Fronts.{BeginFrom}

-- each token begins behind the begin of the one before it
abbrev pub Ordered : List Tok → Type 0
Ordered [] = Unit {0}
Ordered (t ∷ ts) = BeginFrom (t.span.start + 1) ts × Ordered ts

-- a token among these begins at an offset
abbrev pub Has : ℕ → List Tok → Type 0
Has at [] = ⊥
Has at (t ∷ ts) = (t.span.start ≡ at) ⊎ Has at ts
