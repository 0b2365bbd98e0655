-- How a text is cut into pieces, and what that computes.
use Rattle.std.proofs.Common.{◌≡◌, ℕ, ◌+◌, List, [], ◌∷◌, ◌++◌, drop, slice_index, Result, Err, sym, refl, ap, subst, ◌∙◌, zero-add}
use Rattle.luau_lex.specs.declared.token.Kind.{Kind}
use Rattle.luau_lex.specs.declared.token.LexError.{LexError}
use Rattle.luau_lex.specs.declared.piece.Piece.{Piece}
use Rattle.luau_lex.specs.declared.piece.Piece.TheVariants.{Gap, Found, Faulty}
use Rattle.luau_lex.specs.declared.piece.Open.{Open}
use Rattle.luau_lex.specs.Computed.Pieces.{opens_behind}
use Rattle.luau_lex.specs.Token.{Tok}
use Rattle.luau_lex.specs.Computed.Tokens.{token_at, with_token, tokens_from, tokens_of}
use Rattle.luau_lex.specs.Places.{first_line_len}
use Rattle.luau_lex.specs.Computed.Reads.{StandsHere, Reads, HasTokens}
use Rattle.luau_lex.specs.Computed.Steps.{with_tokens}
use Rattle.luau_lex.proofs.ReadingLemmas.{gap_read, found_read, fault_read, tokens_skip, with_one_more, with_none}

-- what the pieces give is what is computed
pub reads_then : (opens : List Open) (at : ℕ) (text : List ℕ) (ps : List Piece) (r : Result (List Tok) LexError) → Reads opens at text ps r → tokens_from opens 0 at text ≡ r
reads_then opens at text [] r h = ap (tokens_from opens 0 at) h.0 ∙ sym h.1
reads_then opens at text (Gap n ∷ ps) r h =
    gap_read opens n at text h.0.within.0 h.0.some h.0.here ∙ reads_then opens (at + n) (drop n text) ps r h.1
reads_then opens at text (Found kind n ∷ ps) r h =
    found_read opens kind n at text h.1.within.0 h.1.some h.1.here
    ∙ ap (with_token (token_at kind n at text)) (reads_then (opens_behind opens at kind (slice_index text 0)) (at + n) (drop n text) ps h.0 h.2)
    ∙ sym h.3
reads_then opens at text (Faulty e ∷ ps) r h = fault_read opens e at text h.0.some h.0.here ∙ sym h.2

-- what a text has is what is computed
pub has_then : (text : List ℕ) (r : Result (List Tok) LexError) → HasTokens text r → tokens_of text ≡ r
unfolding tokens_of
has_then text r h =
    tokens_skip [] (first_line_len text) 0 text
    ∙ ap (λ n. tokens_from [] 0 n (drop (first_line_len text) text)) (zero-add (first_line_len text))
    ∙ reads_then [] (first_line_len text) (drop (first_line_len text) text) h.0 r h.1

-- a text has one list of tokens, or one first fault
pub has_one : (text : List ℕ) (r s : Result (List Tok) LexError) → HasTokens text r → HasTokens text s → r ≡ s
has_one text r s h g = sym (has_then text r h) ∙ has_then text s g

-- the tokens found so far come before those of what is left
abbrev pub Has : List ℕ → List Tok → List Open → ℕ → List ℕ → Type 0
Has text ts opens at rest = (ps : List Piece) (r : Result (List Tok) LexError) → Reads opens at rest ps r → HasTokens text (with_tokens ts r)

-- the pieces of what is left, told of equal places
moved : (opens opens' : List Open) (at at' : ℕ) (rest rest' : List ℕ) (ps : List Piece) (r : Result (List Tok) LexError) → opens' ≡ opens → at' ≡ at → rest' ≡ rest → Reads opens' at' rest' ps r → Reads opens at rest ps r
moved opens opens' at at' rest rest' ps r same_opens same_at same_rest h =
    subst (λ o. Reads o at rest ps r) same_opens
    (subst (λ k. Reads opens' k rest ps r) same_at
    (subst (λ t. Reads opens' at' t ps r) same_rest h))

pub gap_has : (text : List ℕ) (ts ts' : List Tok) (opens opens' : List Open) (n at at' : ℕ) (rest rest' : List ℕ) → StandsHere opens at rest (Gap n) → ts' ≡ ts → opens' ≡ opens → at' ≡ at + n → rest' ≡ drop n rest → Has text ts opens at rest → Has text ts' opens' at' rest'
gap_has text ts ts' opens opens' n at at' rest rest' stands same_tokens same_opens same_at same_rest has ps r h =
    subst (λ t. HasTokens text (with_tokens t r)) (sym same_tokens)
    (has (Gap n ∷ ps) r (stands, moved opens opens' (at + n) at' (drop n rest) rest' ps r same_opens same_at same_rest h))

pub found_has : (text : List ℕ) (ts ts' : List Tok) (opens opens' : List Open) (kind : Kind) (n at at' : ℕ) (rest rest' : List ℕ) → StandsHere opens at rest (Found kind n) → at' ≡ at + n → rest' ≡ drop n rest → opens' ≡ opens_behind opens at kind (slice_index rest 0) → ts' ≡ ts ++ token_at kind n at rest ∷ [] → Has text ts opens at rest → Has text ts' opens' at' rest'
found_has text ts ts' opens opens' kind n at at' rest rest' stands same_at same_rest same_opens same_tokens has ps r h =
    let t = token_at kind n at rest in
    subst (λ t. HasTokens text (with_tokens t r)) (sym same_tokens)
    (subst (HasTokens text) (with_one_more ts t r)
    (has (Found kind n ∷ ps) (with_token t r) (r, stands, moved (opens_behind opens at kind (slice_index rest 0)) opens' (at + n) at' (drop n rest) rest' ps r same_opens same_at same_rest h, refl)))

pub fault_has : (text : List ℕ) (ts : List Tok) (opens : List Open) (e : LexError) (at : ℕ) (rest : List ℕ) → StandsHere opens at rest (Faulty e) → Has text ts opens at rest → HasTokens text (Err e)
fault_has text ts opens e at rest stands has = has (Faulty e ∷ []) (Err e) (stands, refl, refl)

-- in the begin nothing is found, and the first line is passed over
pub start_has : (text : List ℕ) (ts : List Tok) (opens : List Open) (at : ℕ) (rest : List ℕ) → ts ≡ [] → opens ≡ [] → at ≡ first_line_len text → rest ≡ drop (first_line_len text) text → Has text ts opens at rest
start_has text ts opens at rest no_tokens no_opens here left ps r h =
    subst (λ t. HasTokens text (with_tokens t r)) (sym no_tokens)
    (subst (HasTokens text) (sym (with_none r))
    (ps, moved [] opens (first_line_len text) at (drop (first_line_len text) text) rest ps r no_opens here left h))
