-- The tokens of a text are longest, and their braces match.
use Rattle.std.proofs.Common.{◌≡◌, ◌⊎◌, inl, inr, ℕ, zero, suc, ◌+◌, ◌-◌, ◌<◌, ◌≤◌, Bool, true, false, eqb, cond, List, [], ◌∷◌, ◌++◌, length, take, drop, slice_index, slice_get, Option, Some, None, is_some, sym, refl, ap, subst, ◌∙◌, arith, length-append, length-take-le}
use Rattle.std.proofs.lemmas.List.{take-append-drop}
use Rattle.std.proofs.Math.Seq.{take-append_seam}
use Rattle.luau_lex.specs.declared.token.Kind.{Kind}
use Rattle.luau_lex.specs.declared.token.Kind.TheVariants.{Name, Word, Numeral, Quoted, Long, Whole, Begin, Mid, End, Sign}
use Rattle.luau_lex.specs.declared.token.LexError.TheVariants.{UnfinishedString, StrayByte, DoubleBrace}
use Rattle.luau_lex.specs.declared.piece.Piece.TheVariants.{Found, Faulty}
use Rattle.luau_lex.specs.declared.piece.Open.{Open}
use Rattle.luau_lex.specs.declared.piece.Open.TheVariants.{Brace, Part}
use Rattle.luau_lex.specs.Bytes.{minus, backquote, brace, closing_brace}
use Rattle.luau_lex.specs.Numerals.{begins_numeral}
use Rattle.luau_lex.specs.Computed.Numerals.{numeral_len}
use Rattle.luau_lex.specs.Computed.Brackets.{level}
use Rattle.luau_lex.specs.Computed.Signs.{sign_len}
use Rattle.luau_lex.specs.Computed.Strings.{inside_len, malformed_at}
use Rattle.luau_lex.specs.Computed.Pieces.{unless_malformed, part_piece, comment_of, comment_piece, sign_piece, part_open, innermost, closing_piece, other_piece, piece, opens_behind}
use Rattle.luau_lex.specs.Token.{Tok}
use Rattle.luau_lex.specs.Computed.Tokens.{token_at}
use Rattle.luau_lex.specs.Places.{StandInOrder}
use Rattle.luau_lex.specs.Computed.Reads.{StandsHere}
use Rattle.luau_lex.specs.Forms.{HasForm}
use Rattle.luau_lex.specs.Braces.{braces_by, braces_behind, string_open, goes_on_with_string, MayStand}
use Rattle.luau_lex.specs.LongestTokens.{NoLongerToken, NoLongerWord, NoComment, AreLongest}
use Rattle.luau_lex.proofs.FormLemmas.{choose, unless_found, begins_with, comment_no_token, piece_form}
use Rattle.luau_lex.proofs.OrderLemmas.{left_behind}
use Rattle.luau_lex.proofs.WordLemmas.{word_longest}
use Rattle.luau_lex.proofs.NumeralLemmas.{numeral_is_read}
use Rattle.luau_lex.proofs.PlaceLemmas.{front_byte, begins_append, numeral_found, at_numeral, at_closing}
use Rattle.luau_lex.proofs.LongestTokenLemmas.{form_bound}

-- the open braces from the outermost to the innermost
abbrev pub outward : List Open → List Open
outward [] = []
outward (b ∷ braces) = outward braces ++ b ∷ []

get_last : (xs : List Open) (b : Open) → slice_get (xs ++ b ∷ []) (length xs) ≡ Some b
get_last [] b = refl
get_last (x ∷ xs) b = get_last xs b

last_width : (xs : List Open) (b : Open) → length (xs ++ b ∷ []) - 1 ≡ length xs
last_width xs b = omega (arith, length-append xs (b ∷ []))

part_of : (b : Open) (braces : List Open) → part_open (Some b) ≡ string_open (b ∷ braces)
part_of Brace braces = refl
part_of (Part start) braces = refl

-- the innermost open brace, told both ways
pub innermost_is : (braces : List Open) → part_open (innermost (outward braces)) ≡ string_open braces
innermost_is [] = refl
innermost_is (b ∷ braces) =
    let xs = outward braces in
    ap (λ n. part_open (slice_get (xs ++ b ∷ []) n)) (last_width xs b) ∙ ap part_open (get_last xs b) ∙ part_of b braces

closed_outward : (braces : List Open) → take (length (outward braces) - 1) (outward braces) ≡ outward (drop 1 braces)
closed_outward [] = refl
closed_outward (b ∷ braces) =
    let xs = outward braces in
    ap (λ n. take n (xs ++ b ∷ [])) (last_width xs b) ∙ take-append_seam xs (b ∷ [])

sign_outward : (braces : List Open) (t s : Bool) → cond t (outward braces ++ Brace ∷ []) (cond s (take (length (outward braces) - 1) (outward braces)) (outward braces)) ≡ outward (cond t (Brace ∷ braces) (cond s (drop 1 braces) braces))
sign_outward braces true s = refl
sign_outward braces false true = closed_outward braces
sign_outward braces false false = refl

-- the open braces behind a token, told both ways
pub behind_is : (kind : Kind) (at first : ℕ) (braces : List Open) → opens_behind (outward braces) at kind first ≡ outward (braces_by kind at first braces)
unfolding opens_behind
behind_is Begin at first braces = refl
behind_is End at first braces = closed_outward braces
behind_is Sign at first braces = sign_outward braces (eqb first brace) (eqb first closing_brace)
behind_is Name at first braces = refl
behind_is Word at first braces = refl
behind_is Numeral at first braces = refl
behind_is Quoted at first braces = refl
behind_is Long at first braces = refl
behind_is Whole at first braces = refl
behind_is Mid at first braces = refl

-- no longer front is a token
no_longer : (braces : List Open) (at : ℕ) (text : List ℕ) (kind : Kind) (n : ℕ) → piece (innermost (outward braces)) at text ≡ Found kind n → NoLongerToken braces text n
no_longer braces at text kind n is k m longer fits may form =
    let ob = innermost (outward braces) in
    let whole = take-append-drop m text in
    let width = length-take-le m text fits in
    let bound = form_bound k ob at (take m text) (drop m text) kind n (omega (arith, ap length whole, longer, fits)) (λ goes. ap is_some (innermost_is braces) ∙ may goes) form (ap (piece ob at) whole ∙ is) in
    omega (arith, bound, width, longer)

-- and a numeral is the whole word
no_longer_word : (ob : Option Open) (at : ℕ) (text : List ℕ) (kind : Kind) (n : ℕ) → 0 < length text → piece ob at text ≡ Found kind n → kind ≡ Numeral → NoLongerWord text n
no_longer_word ob at text kind n some is numeral m longer fits word =
    let form : HasForm Numeral (take n text) = subst (λ k. HasForm k (take n text)) numeral (piece_form ob at text kind n some is) in
    let begins = ap begins_numeral (sym (take-append-drop n text)) ∙ begins_append (take n text) (drop n text) (numeral_is_read (take n text) form).0 in
    let len = numeral_found at text kind n (sym (at_numeral ob at text begins) ∙ is) in
    let bound = word_longest (take m text) (drop m text) word in
    omega (arith, len, bound, ap numeral_len (take-append-drop m text), length-take-le m text fits, longer)

pub at_comment : (ob : Option Open) (at : ℕ) (rest : List ℕ) → piece ob at (minus ∷ minus ∷ rest) ≡ comment_of (level rest) at (minus ∷ minus ∷ rest)
unfolding piece other_piece comment_piece
at_comment ob at rest = refl

no_comment : (ob : Option Open) (at : ℕ) (text : List ℕ) (kind : Kind) (n : ℕ) → piece ob at text ≡ Found kind n → NoComment text
no_comment ob at text kind n is rest begins =
    comment_no_token (level rest) at (minus ∷ minus ∷ rest) kind n (sym (at_comment ob at rest) ∙ ap (piece ob at) (sym begins) ∙ is)

-- a token that goes on with an interpolated string
pub sign_kind : (at : ℕ) (text : List ℕ) (kind : Kind) (n : ℕ) → sign_piece at text ≡ Found kind n → kind ≡ Sign
unfolding sign_piece
sign_kind at text kind n is =
    choose (eqb (sign_len text) 0) (Faulty (StrayByte at)) (Found Sign (sign_len text)) (Found kind n) is
    (λ _ wrong. absurd (cc)) (λ _ same. cc)

part_kind : (last further : Kind) (start at : ℕ) (text : List ℕ) (kind : Kind) (n : ℕ) → part_piece last further start at text ≡ Found kind n → (kind ≡ last) ⊎ (kind ≡ further)
unfolding part_piece
part_kind last further start at text kind n is =
    let behind = drop 1 text in
    let m = inside_len backquote behind in
    let bad = malformed_at (take m behind) in
    let double = eqb (slice_index behind (m + 1)) brace in
    let inner = cond double (Faulty (DoubleBrace (at + 1 + m))) (Found further (m + 2)) in
    choose (eqb (slice_index behind m) backquote) (unless_malformed at bad (Found last (m + 2))) (cond (eqb (slice_index behind m) brace) (unless_malformed at bad inner) (Faulty (UnfinishedString start))) (Found kind n) is
    (λ _ found. unless_found at bad (Found last (m + 2)) kind n found (λ _ same. inl (cc)))
    (λ _ more. choose (eqb (slice_index behind m) brace) (unless_malformed at bad inner) (Faulty (UnfinishedString start)) (Found kind n) more
    (λ _ found. unless_found at bad inner kind n found
    (λ _ same. choose double (Faulty (DoubleBrace (at + 1 + m))) (Found further (m + 2)) (Found kind n) same
    (λ _ wrong. absurd (cc)) (λ _ same'. inr (cc))))
    (λ _ wrong. absurd (cc)))

goes_at : (o : Option ℕ) (at : ℕ) (text : List ℕ) (kind : Kind) (n : ℕ) → closing_piece o at text ≡ Found kind n → goes_on_with_string kind ≡ true → is_some o ≡ true
unfolding closing_piece
goes_at None at text kind n is goes = absurd (let same = ap goes_on_with_string (sign_kind at text kind n is) in cc)
goes_at (Some start) at text kind n is goes = refl

stays_at : (o : Option ℕ) (at : ℕ) (text : List ℕ) (kind : Kind) (n : ℕ) → closing_piece o at text ≡ Found kind n → kind ≡ Sign → o ≡ None
unfolding closing_piece
stays_at None at text kind n is sign = refl
stays_at (Some start) at text kind n is sign = elim (part_kind End Mid start at text kind n is) [ inl ends ↦ absurd (cc) | inr goes ↦ absurd (cc) ]

-- the first byte of what goes on with an interpolated string
goes_first : (kind : Kind) (bytes : List ℕ) → goes_on_with_string kind ≡ true → HasForm kind bytes → slice_index bytes 0 ≡ closing_brace
goes_first Mid bytes goes form = ap (λ l. slice_index l 0) form.1
goes_first End bytes goes form = ap (λ l. slice_index l 0) form.1
goes_first Name bytes goes form = absurd (cc)
goes_first Word bytes goes form = absurd (cc)
goes_first Numeral bytes goes form = absurd (cc)
goes_first Quoted bytes goes form = absurd (cc)
goes_first Long bytes goes form = absurd (cc)
goes_first Whole bytes goes form = absurd (cc)
goes_first Begin bytes goes form = absurd (cc)
goes_first Sign bytes goes form = absurd (cc)

pub may_stand : (braces : List Open) (at : ℕ) (text : List ℕ) (kind : Kind) (n : ℕ) → 0 < length text → 1 ≤ n → piece (innermost (outward braces)) at text ≡ Found kind n → MayStand braces kind
may_stand braces at text kind n some least is goes =
    let ob = innermost (outward braces) in
    let first : slice_index text 0 ≡ closing_brace = front_byte text n closing_brace (goes_first kind (take n text) goes (piece_form ob at text kind n some is)) least in
    let whole : text ≡ closing_brace ∷ drop 1 text = begins_with closing_brace text (omega arith) first in
    let found = sym (at_closing ob at (drop 1 text)) ∙ ap (piece ob at) (sym whole) ∙ is in
    ap is_some (sym (innermost_is braces)) ∙ goes_at (part_open ob) at (closing_brace ∷ drop 1 text) kind n found goes

pub sign_stands : (braces : List Open) (at : ℕ) (text : List ℕ) (kind : Kind) (n : ℕ) → 1 ≤ n → piece (innermost (outward braces)) at text ≡ Found kind n → kind ≡ Sign → slice_index (take n text) 0 ≡ closing_brace → string_open braces ≡ None
sign_stands braces at text kind n least is sign closes =
    let ob = innermost (outward braces) in
    let whole : text ≡ closing_brace ∷ drop 1 text = begins_with closing_brace text (omega arith) (front_byte text n closing_brace closes least) in
    let found = sym (at_closing ob at (drop 1 text)) ∙ ap (piece ob at) (sym whole) ∙ is in
    sym (innermost_is braces) ∙ stays_at (part_open ob) at (closing_brace ∷ drop 1 text) kind n found sign

-- the first byte of a front
pub first_of : (n : ℕ) (text : List ℕ) → 1 ≤ n → slice_index (take n text) 0 ≡ slice_index text 0
first_of zero text least = absurd (omega arith)
first_of (suc n) [] least = refl
first_of (suc n) (x ∷ text) least = refl

-- braces match, and tokens are longest, behind a gap
pub longest_behind : (braces : List Open) (at n : ℕ) (text : List ℕ) (ts : List Tok) → StandInOrder (at + n) (drop n text) ts → AreLongest braces (at + n) (drop n text) ts → AreLongest braces at text ts
longest_behind braces at n text [] order h = tt
longest_behind braces at n text (t ∷ ts) order h =
    let left = left_behind at n t.span.start text order.0 in (
      subst (λ l. NoLongerToken braces l (t.span.end - t.span.start)) left h.0,
      (λ numeral. subst (λ l. NoLongerWord l (t.span.end - t.span.start)) left (h.1 numeral)),
      subst NoComment left h.2,
      subst (λ l. AreLongest (braces_behind t braces) t.span.end l ts) (left_behind at n t.span.end text (omega (arith, order.0, order.1))) h.3,
    )

pub longest_token : (braces : List Open) (kind : Kind) (at n : ℕ) (text : List ℕ) (ts : List Tok) → StandsHere (outward braces) at text (Found kind n) → AreLongest (braces_by kind at (slice_index (take n text) 0) braces) (at + n) (drop n text) ts → AreLongest braces at text (token_at kind n at text ∷ ts)
longest_token braces kind at n text ts stands h =
    let width : at + n - at ≡ n = omega arith in
    let none : at - at ≡ 0 = omega arith in
    let ob = innermost (outward braces) in (
      subst (λ k. NoLongerToken braces (drop k text) (at + n - at)) (sym none) (subst (NoLongerToken braces text) (sym width) (no_longer braces at text kind n stands.here)),
      (λ numeral. subst (λ k. NoLongerWord (drop k text) (at + n - at)) (sym none) (subst (NoLongerWord text) (sym width) (no_longer_word ob at text kind n stands.some stands.here numeral))),
      subst (λ k. NoComment (drop k text)) (sym none) (no_comment ob at text kind n stands.here),
      subst (λ k. AreLongest (braces_by kind at (slice_index (take n text) 0) braces) (at + n) (drop k text) ts) (sym width) h,
    )
