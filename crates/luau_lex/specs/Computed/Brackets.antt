-- Long brackets, computed.
use Rattle.std.specs.Prelude.{ℕ, Bool, ◌&&◌, ◌==◌, List, [], ◌∷◌, drop, slice_index, if◌then◌else◌, Option, Some, None, option_map, suc}
use Rattle.std.specs.List.{prefix_len}
use Rattle.luau_lex.specs.Bytes.{equals, bracket, closing_bracket}

-- how many equals signs stand at the front
abbrev pub equals_len : List ℕ → ℕ
equals_len text = prefix_len (λ b. b == equals) text

-- the level of the long bracket that opens at the front: the equals signs between its two brackets
unfoldable pub level : List ℕ → Option ℕ
level text =
    let signs = equals_len (drop 1 text) in
    if (slice_index text 0 == bracket) && (slice_index (drop 1 text) signs == bracket)
    then Some signs else None

-- a long bracket of this level closes at the front
unfoldable pub closes : ℕ → List ℕ → Bool
closes signs text =
    (slice_index text 0 == closing_bracket) && ((equals_len (drop 1 text) == signs)
    && (slice_index (drop 1 text) signs == closing_bracket))

-- how many bytes stand before the first place where a long bracket of this level closes
unfoldable pub closing_place : ℕ → List ℕ → Option ℕ
closing_place signs [] = None
closing_place signs (x ∷ xs) =
    if closes signs (x ∷ xs) then Some 0 else option_map (λ n. suc n) (closing_place signs xs)
