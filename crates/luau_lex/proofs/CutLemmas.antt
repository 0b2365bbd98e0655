-- The tokens of a text up to its end or up to its first fault, both computed at once.
use Rattle.std.proofs.Common.{◌≡◌, ℕ, zero, suc, ◌+◌, ◌-◌, ◌<◌, ◌≤◌, List, [], ◌∷◌, length, drop, slice_index, Result, Ok, Err, Option, None, Some, sym, refl, ap, ◌∙◌, arith, add-zero}
use Rattle.luau_lex.specs.declared.token.Kind.{Kind}
use Rattle.luau_lex.specs.declared.token.LexError.{LexError}
use Rattle.luau_lex.specs.declared.piece.Piece.{Piece}
use Rattle.luau_lex.specs.declared.piece.Piece.TheVariants.{Gap, Found, Faulty}
use Rattle.luau_lex.specs.declared.piece.Open.{Open}
use Rattle.luau_lex.specs.Token.{Tok}
use Rattle.luau_lex.specs.Computed.Pieces.{piece, innermost, opens_behind}
use Rattle.luau_lex.specs.Computed.Tokens.{token_at, with_token, behind, tokens_from}

-- these tokens, up to the end of a text or up to this fault
pub record Cut : Type 0 where
  pub tokens : List Tok
  pub fault : Option LexError

abbrev pub cut_at : List Tok → Option LexError → Cut
cut_at ts fault = record { tokens = ts; fault = fault }

abbrev pub with_first : Tok → Cut → Cut
with_first t c = cut_at (t ∷ c.tokens) c.fault

abbrev pub cut_behind : Piece → List Open → ℕ → List ℕ → (List Open → ℕ → Cut) → Cut
cut_behind (Gap n) opens at text rest = rest opens (n - 1)
cut_behind (Found kind n) opens at text rest = with_first (token_at kind n at text) (rest (opens_behind opens at kind (slice_index text 0)) (n - 1))
cut_behind (Faulty e) opens at text rest = cut_at [] (Some e)

-- as `tokens_from`, but the tokens before a fault are kept
abbrev pub cut_from : List Open → ℕ → ℕ → List ℕ → Cut
cut_from opens begun at [] = cut_at [] None
cut_from opens (suc begun) at (b ∷ text) = cut_from opens begun (at + 1) text
cut_from opens zero at (b ∷ text) = cut_behind (piece (innermost opens) at (b ∷ text)) opens at (b ∷ text) (λ opens' begun. cut_from opens' begun (at + 1) text)

-- the answer that these tokens are, up to the end of the text or up to this fault
abbrev pub answer_of : Option LexError → List Tok → Result (List Tok) LexError
answer_of None ts = Ok ts
answer_of (Some e) ts = Err e

abbrev pub answer : Cut → Result (List Tok) LexError
answer c = answer_of c.fault c.tokens

answer_token : (fault : Option LexError) (t : Tok) (ts : List Tok) → with_token t (answer_of fault ts) ≡ answer_of fault (t ∷ ts)
answer_token None t ts = refl
answer_token (Some e) t ts = refl

behind_answers : (p : Piece) (opens : List Open) (at : ℕ) (text : List ℕ) (f : List Open → ℕ → Result (List Tok) LexError) (g : List Open → ℕ → Cut) → ((o : List Open) (n : ℕ) → f o n ≡ answer (g o n)) → behind p opens at text f ≡ answer (cut_behind p opens at text g)
behind_answers (Gap n) opens at text f g same = same opens (n - 1)
behind_answers (Found kind n) opens at text f g same =
    let o = opens_behind opens at kind (slice_index text 0) in
    let t = token_at kind n at text in
    ap (with_token t) (same o (n - 1)) ∙ answer_token (g o (n - 1)).fault t (g o (n - 1)).tokens
behind_answers (Faulty e) opens at text f g same = refl

-- it is the same answer
pub cut_answers : (opens : List Open) (begun at : ℕ) (text : List ℕ) → tokens_from opens begun at text ≡ answer (cut_from opens begun at text)
cut_answers opens begun at [] = refl
cut_answers opens (suc begun) at (b ∷ text) = cut_answers opens begun (at + 1) text
cut_answers opens zero at (b ∷ text) =
    behind_answers (piece (innermost opens) at (b ∷ text)) opens at (b ∷ text) (λ opens' begun. tokens_from opens' begun (at + 1) text) (λ opens' begun. cut_from opens' begun (at + 1) text)
    (λ opens' begun. cut_answers opens' begun (at + 1) text)

-- what is left of a text
abbrev pub cut : List Open → ℕ → List ℕ → Cut
cut opens at text = cut_from opens 0 at text

-- the bytes of a piece that has begun are passed over
pub cut_skip : (opens : List Open) (begun at : ℕ) (text : List ℕ) → cut_from opens begun at text ≡ cut opens (at + begun) (drop begun text)
cut_skip opens zero at text = ap (λ n. cut opens n text) (sym (add-zero at))
cut_skip opens (suc begun) at [] = refl
cut_skip opens (suc begun) at (b ∷ text) =
    let same : at + 1 + begun ≡ at + suc begun = omega arith in
    cut_skip opens begun (at + 1) text ∙ ap (λ n. cut opens n (drop begun text)) same

cut_piece : (opens : List Open) (at : ℕ) (text : List ℕ) (p : Piece) → 0 < length text → piece (innermost opens) at text ≡ p → cut opens at text ≡ cut_behind p opens at text (λ opens' begun. cut_from opens' begun (at + 1) (drop 1 text))
cut_piece opens at [] p some is = absurd (omega arith)
cut_piece opens at (b ∷ text) p some is = ap (λ q. cut_behind q opens at (b ∷ text) (λ opens' begun. cut_from opens' begun (at + 1) text)) is

cut_further : (opens : List Open) (n at : ℕ) (text : List ℕ) → 1 ≤ n → 0 < length text → cut_from opens (n - 1) (at + 1) (drop 1 text) ≡ cut opens (at + n) (drop n text)
cut_further opens n at [] least some = absurd (omega arith)
cut_further opens zero at (b ∷ text) least some = absurd (omega arith)
cut_further opens (suc n) at (b ∷ text) least some =
    let less : suc n - 1 ≡ n = omega arith in
    let same : at + 1 + n ≡ at + suc n = omega arith in
    ap (λ k. cut_from opens k (at + 1) text) less ∙ cut_skip opens n (at + 1) text ∙ ap (λ k. cut opens k (drop n text)) same

pub cut_gap : (opens : List Open) (n at : ℕ) (text : List ℕ) → 1 ≤ n → 0 < length text → piece (innermost opens) at text ≡ Gap n → cut opens at text ≡ cut opens (at + n) (drop n text)
cut_gap opens n at text least some is = cut_piece opens at text (Gap n) some is ∙ cut_further opens n at text least some

pub cut_token : (opens : List Open) (kind : Kind) (n at : ℕ) (text : List ℕ) → 1 ≤ n → 0 < length text → piece (innermost opens) at text ≡ Found kind n → cut opens at text ≡ with_first (token_at kind n at text) (cut (opens_behind opens at kind (slice_index text 0)) (at + n) (drop n text))
cut_token opens kind n at text least some is =
    cut_piece opens at text (Found kind n) some is
    ∙ ap (with_first (token_at kind n at text)) (cut_further (opens_behind opens at kind (slice_index text 0)) n at text least some)

pub cut_fault : (opens : List Open) (e : LexError) (at : ℕ) (text : List ℕ) → 0 < length text → piece (innermost opens) at text ≡ Faulty e → cut opens at text ≡ cut_at [] (Some e)
cut_fault opens e at text some is = cut_piece opens at text (Faulty e) some is
