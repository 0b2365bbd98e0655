-- Reading a text piece by piece.
use Rattle.std.proofs.Common.{◌≡◌, ℕ, zero, suc, ◌+◌, ◌-◌, ◌<◌, ◌≤◌, List, [], ◌∷◌, ◌++◌, length, drop, slice_index, Result, Ok, Err, sym, refl, ap, ◌∙◌, arith, append_assoc, add-zero}
use Rattle.luau_lex.specs.declared.token.Kind.{Kind}
use Rattle.luau_lex.specs.declared.token.LexError.{LexError}
use Rattle.luau_lex.specs.declared.piece.Piece.{Piece}
use Rattle.luau_lex.specs.declared.piece.Piece.TheVariants.{Gap, Found, Faulty}
use Rattle.luau_lex.specs.declared.piece.Open.{Open}
use Rattle.luau_lex.specs.Computed.Pieces.{piece, innermost, opens_behind}
use Rattle.luau_lex.specs.Token.{Tok}
use Rattle.luau_lex.specs.Computed.Tokens.{token_at, with_token, behind, tokens_from}
use Rattle.luau_lex.specs.Computed.Steps.{with_tokens}

-- the bytes of a piece that has begun are passed over
pub tokens_skip : (opens : List Open) (begun at : ℕ) (text : List ℕ) → tokens_from opens begun at text ≡ tokens_from opens 0 (at + begun) (drop begun text)
tokens_skip opens zero at text = ap (λ n. tokens_from opens 0 n text) (sym (add-zero at))
tokens_skip opens (suc begun) at [] = refl
tokens_skip opens (suc begun) at (b ∷ text) =
    let same : at + 1 + begun ≡ at + suc begun = omega arith in
    tokens_skip opens begun (at + 1) text ∙ ap (λ n. tokens_from opens 0 n (drop begun text)) same

-- what a piece at the front, and what is left behind it, give
pub piece_then : (opens : List Open) (at : ℕ) (text : List ℕ) (p : Piece) → 0 < length text → piece (innermost opens) at text ≡ p → tokens_from opens 0 at text ≡ behind p opens at text (λ opens' begun. tokens_from opens' begun (at + 1) (drop 1 text))
piece_then opens at [] p some is = absurd (omega arith)
piece_then opens at (b ∷ text) p some is = ap (λ q. behind q opens at (b ∷ text) (λ opens' begun. tokens_from opens' begun (at + 1) text)) is

-- a piece of n bytes is passed over
pub behind_piece : (opens : List Open) (n at : ℕ) (text : List ℕ) → 1 ≤ n → 0 < length text → tokens_from opens (n - 1) (at + 1) (drop 1 text) ≡ tokens_from opens 0 (at + n) (drop n text)
behind_piece opens n at [] least some = absurd (omega arith)
behind_piece opens zero at (b ∷ text) least some = absurd (omega arith)
behind_piece opens (suc n) at (b ∷ text) least some =
    let less : suc n - 1 ≡ n = omega arith in
    let same : at + 1 + n ≡ at + suc n = omega arith in
    ap (λ k. tokens_from opens k (at + 1) text) less ∙ tokens_skip opens n (at + 1) text ∙ ap (λ k. tokens_from opens 0 k (drop n text)) same

pub gap_read : (opens : List Open) (n at : ℕ) (text : List ℕ) → 1 ≤ n → 0 < length text → piece (innermost opens) at text ≡ Gap n → tokens_from opens 0 at text ≡ tokens_from opens 0 (at + n) (drop n text)
gap_read opens n at text least some is = piece_then opens at text (Gap n) some is ∙ behind_piece opens n at text least some

pub found_read : (opens : List Open) (kind : Kind) (n at : ℕ) (text : List ℕ) → 1 ≤ n → 0 < length text → piece (innermost opens) at text ≡ Found kind n → tokens_from opens 0 at text ≡ with_token (token_at kind n at text) (tokens_from (opens_behind opens at kind (slice_index text 0)) 0 (at + n) (drop n text))
found_read opens kind n at text least some is =
    piece_then opens at text (Found kind n) some is
    ∙ ap (with_token (token_at kind n at text)) (behind_piece (opens_behind opens at kind (slice_index text 0)) n at text least some)

pub fault_read : (opens : List Open) (e : LexError) (at : ℕ) (text : List ℕ) → 0 < length text → piece (innermost opens) at text ≡ Faulty e → tokens_from opens 0 at text ≡ Err e
fault_read opens e at text some is = piece_then opens at text (Faulty e) some is

-- a token found joins those that were found before
pub with_one_more : (ts : List Tok) (t : Tok) (r : Result (List Tok) LexError) → with_tokens ts (with_token t r) ≡ with_tokens (ts ++ t ∷ []) r
with_one_more ts t (Ok us) = ap Ok (sym (append_assoc ts (t ∷ []) us))
with_one_more ts t (Err e) = refl

-- no tokens before a text's tokens
pub with_none : (r : Result (List Tok) LexError) → with_tokens [] r ≡ r
with_none (Ok us) = refl
with_none (Err e) = refl
