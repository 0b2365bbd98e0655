-- What a run has written and asked that breaks off, and what it gives a sink at each write.
use Rattle.std.specs.Prelude.{◌≡◌, ◌<◌, ◌++◌, ⊤, ℕ, List, [], ◌∷◌, Option, IfSome, IsSomeAnd, length, take, drop}

-- a sink that tells its bytes after a call told them before it, and the call appended a front of
-- this text and not the whole
abbrev pub AppendsPart : Option (List ℕ) → Option (List ℕ) → List ℕ → Type 0
AppendsPart before after text =
    IfSome after (λ now. IsSomeAnd before (λ then.
    (count : ℕ) × (count < length text) × (now ≡ then ++ take count text)))

-- chunks that are given one after the other, each of them all that is left of a text: the first is
-- the text, and each other is the one before it without a front
abbrev pub AreRests : List ℕ → List (List ℕ) → Type 0
AreRests text [] = ⊤
AreRests text (chunk ∷ chunks) = (chunk ≡ text) × (n : ℕ) × (0 < n) × AreRests (drop n text) chunks

-- a sink that tells the chunks it was given after a call told them before it, and those that the
-- call gave are each all that was left of this text
abbrev pub GivesRests : Option (List (List ℕ)) → Option (List (List ℕ)) → List ℕ → Type 0
GivesRests before after text =
    IfSome after (λ now. IsSomeAnd before (λ then.
    (given : List (List ℕ)) × (now ≡ then ++ given) × AreRests text given))

-- where a list is told, a call appended a front of this one to it, if not all
abbrev pub AppendsFront : {A : Type 0} → Option (List A) → Option (List A) → List A → Type 0
AppendsFront before after list =
    IfSome after (λ now. IsSomeAnd before (λ then. (count : ℕ) × (now ≡ then ++ take count list)))
