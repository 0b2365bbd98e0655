-- The tokens of a whole text, or its first fault, computed.
use Rattle.std.specs.Prelude.{ℕ, zero, suc, ◌+◌, ◌-◌, ◌≤◌, List, [], ◌∷◌, take, slice_index, Result, Ok, Err}
use Rattle.luau_lex.specs.declared.token.Kind.{Kind}
use Rattle.luau_lex.specs.declared.token.LexError.{LexError}
use Rattle.luau_lex.specs.declared.piece.Piece.{Piece}
use Rattle.luau_lex.specs.declared.piece.Piece.TheVariants.{Gap, Found, Faulty}
use Rattle.luau_lex.specs.declared.piece.Open.{Open}
use Rattle.luau_lex.specs.Computed.Pieces.{innermost, piece, opens_behind}
use Rattle.luau_lex.specs.Places.{first_line_len}
use Rattle.luau_lex.specs.Token.{Tok}

-- the token of this kind and length at the front of a text, at this offset
abbrev pub token_at : Kind → ℕ → ℕ → List ℕ → Tok
token_at kind n at text =
    record { kind = kind; span = record { start = at; end = at + n }; bytes = take n text }

-- a token, and then what comes behind it: tokens or a fault
abbrev pub with_token : Tok → Result (List Tok) LexError → Result (List Tok) LexError
with_token t (Ok ts) = Ok (t ∷ ts)
with_token t (Err e) = Err e

-- What a piece and what follows it give: a gap gives nothing, a token itself, and a fault ends all.
abbrev pub behind : Piece → List Open → ℕ → List ℕ → (List Open → ℕ → Result (List Tok) LexError) → Result (List Tok) LexError
behind (Gap n) opens at text rest = rest opens (n - 1)
behind (Found kind n) opens at text rest =
    with_token (token_at kind n at text) (rest (opens_behind opens at kind (slice_index text 0)) (n - 1))
behind (Faulty e) opens at text rest = Err e

-- The tokens of a text from this offset on, within these open braces, or the first fault. The
-- number says how many bytes at the front belong to a piece that has begun.
abbrev pub tokens_from : List Open → ℕ → ℕ → List ℕ → Result (List Tok) LexError
tokens_from opens begun at [] = Ok []
tokens_from opens (suc begun) at (b ∷ text) = tokens_from opens begun (at + 1) text
tokens_from opens zero at (b ∷ text) =
    behind (piece (innermost opens) at (b ∷ text)) opens at (b ∷ text)
    (λ opens' begun. tokens_from opens' begun (at + 1) text)

-- the tokens of a text, or its first fault
unfoldable pub tokens_of : List ℕ → Result (List Tok) LexError
tokens_of text = tokens_from [] (first_line_len text) 0 text

-- the piece lies within so many bytes, and has one at least
abbrev pub IsWithin : Piece → ℕ → Type 0
IsWithin (Gap n) most = (1 ≤ n) × (n ≤ most)
IsWithin (Found kind n) most = (1 ≤ n) × (n ≤ most)
IsWithin (Faulty e) most = Unit {0}
