-- How a whole text is cut into pieces, one directly behind the other.
use Rattle.std.specs.Prelude.{◌≡◌, ℕ, ◌+◌, ◌<◌, List, [], ◌∷◌, length, drop, slice_index, Result, Ok, Err}
use Rattle.luau_lex.specs.declared.token.LexError.{LexError}
use Rattle.luau_lex.specs.declared.piece.Piece.{Piece}
use Rattle.luau_lex.specs.declared.piece.Piece.TheVariants.{Gap, Found, Faulty}
use Rattle.luau_lex.specs.declared.piece.Open.{Open}
use Rattle.luau_lex.specs.Computed.Pieces.{innermost, piece, opens_behind}
use Rattle.luau_lex.specs.Computed.Tokens.{token_at, with_token, IsWithin}
use Rattle.luau_lex.specs.Places.{first_line_len}
use Rattle.luau_lex.specs.Token.{Tok}

-- this piece stands at the front of what is left of a text, at this offset and within these open
-- braces
pub record StandsHere (opens : List Open) (at : ℕ) (text : List ℕ) (p : Piece) : Type 0 where
  pub some : 0 < length text
  pub here : piece (innermost opens) at text ≡ p
  pub within : IsWithin p (length text)

-- What is left of a text is these pieces, one directly behind the other to its end, or to the first
-- fault. It has the tokens among them, in order, or the fault.
abbrev pub Reads : List Open → ℕ → List ℕ → List Piece → Result (List Tok) LexError → Type 0
Reads opens at text [] r = (text ≡ []) × (r ≡ Ok [])
Reads opens at text (Gap n ∷ ps) r =
    StandsHere opens at text (Gap n) × Reads opens (at + n) (drop n text) ps r
Reads opens at text (Found kind n ∷ ps) r =
    (rest : Result (List Tok) LexError) × StandsHere opens at text (Found kind n)
    × Reads (opens_behind opens at kind (slice_index text 0)) (at + n) (drop n text) ps rest
    × (r ≡ with_token (token_at kind n at text) rest)
Reads opens at text (Faulty e ∷ ps) r =
    StandsHere opens at text (Faulty e) × (ps ≡ []) × (r ≡ Err e)

-- The text has these tokens, or this is its first fault: its pieces give them, behind a first line
-- that is read as a comment.
abbrev pub HasTokens : List ℕ → Result (List Tok) LexError → Type 0
HasTokens text r =
    (ps : List Piece) × Reads [] (first_line_len text) (drop (first_line_len text) text) ps r
