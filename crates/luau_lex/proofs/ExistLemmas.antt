-- Each text has tokens, or a first fault.
use Rattle.std.proofs.Common.{◌≡◌, ℕ, zero, suc, ◌+◌, ◌<◌, ◌≤◌, Bool, true, false, ◌&&◌, ◌||◌, inl, inr, eqb, cond, List, [], ◌∷◌, length, take, drop, slice_index, Option, Some, None, sym, refl, ap, subst, ◌∙◌, arith, zero-add, length-drop, eqb-true}
use Rattle.std.specs.List.{prefix_len}
use Rattle.std.proofs.str.Laws.{order}
use Rattle.std.proofs.lemmas.List.{get_or_past}
use Rattle.std.proofs.lemmas.List.Sums.{prefix_len-le-length}
use Rattle.luau_lex.specs.declared.token.Kind.{Kind}
use Rattle.luau_lex.specs.declared.token.Kind.TheVariants.{Numeral, Quoted, Whole, Begin, Mid, End, Sign}
use Rattle.luau_lex.specs.declared.token.LexError.TheVariants.{UnfinishedString, BadNumeral, StrayByte, DoubleBrace}
use Rattle.luau_lex.specs.declared.piece.Piece.{Piece}
use Rattle.luau_lex.specs.declared.piece.Piece.TheVariants.{Gap, Found, Faulty}
use Rattle.luau_lex.specs.declared.piece.Open.{Open}
use Rattle.luau_lex.specs.Bytes.{double_quote, single_quote, minus, backquote, brace, closing_brace, is_blank, is_name_start, is_name_byte, is_numeral_byte, is_no_line_feed, is_exponent_letter, is_exponent_sign}
use Rattle.luau_lex.specs.Numerals.{begins_numeral}
use Rattle.luau_lex.specs.Computed.Numerals.{exponent_len, numeral_len, is_numeral}
use Rattle.luau_lex.specs.Computed.Signs.{sign_len}
use Rattle.luau_lex.specs.Computed.Brackets.{level, closing_place}
use Rattle.luau_lex.specs.Computed.Strings.{inside_len, malformed_at}
use Rattle.luau_lex.specs.Computed.Pieces.{name_piece, numeral_piece, unless_malformed, quoted_piece, part_piece, long_of, long_piece, long_comment_of, comment_of, comment_piece, sign_piece, bracket_or_sign, part_open, innermost, closing_piece, other_piece, piece, opens_behind}
use Rattle.luau_lex.specs.Computed.Tokens.{tokens_from, tokens_of, IsWithin}
use Rattle.luau_lex.specs.Places.{first_line_len}
use Rattle.luau_lex.specs.Computed.Reads.{Reads, HasTokens}
use Rattle.luau_lex.proofs.LongestLemmas.{run_some, start_goes_on}
use Rattle.luau_lex.proofs.SignLemmas.{sign_longest}
use Rattle.luau_lex.proofs.SpellingLemmas.{and_at}
use Rattle.luau_lex.proofs.LongLemmas.{opens_fits, closes_fits}
use Rattle.luau_lex.proofs.FormLemmas.{begins_byte, quote_some, not_none}
use Rattle.luau_lex.proofs.ReadingLemmas.{tokens_skip, gap_read, found_read, fault_read}

-- a choice lies within as many bytes as what is chosen
within_choice : (t : Bool) (x y : Piece) (n : ℕ) → (t ≡ true → IsWithin x n) → (t ≡ false → IsWithin y n) → IsWithin (cond t x y) n
within_choice true x y n f g = f refl
within_choice false x y n f g = g refl

name_within : (at : ℕ) (text : List ℕ) → is_name_start (slice_index text 0) ≡ true → IsWithin (name_piece text) (length text)
unfolding name_piece
name_within at text starts =
    let some = run_some is_name_byte text refl (start_goes_on (slice_index text 0) starts) in
    (omega arith, prefix_len-le-length is_name_byte text)

exponent_one : (a b : Bool) → cond a (cond false 2 1) 0 ≤ 1
exponent_one true b = omega arith
exponent_one false b = omega arith

exponent_two : (a b : Bool) → cond a (cond b 2 1) 0 ≤ 2
exponent_two true true = omega arith
exponent_two true false = omega arith
exponent_two false b = omega arith

exponent_within : (text : List ℕ) → exponent_len text ≤ length text
unfolding exponent_len
exponent_within [] = omega arith
exponent_within (x ∷ []) = exponent_one (is_exponent_letter x) true
exponent_within (x ∷ y ∷ text) = let most = exponent_two (is_exponent_letter x) (is_exponent_sign y) in omega arith

pub numeral_len_within : (text : List ℕ) → numeral_len text ≤ length text
unfolding numeral_len
numeral_len_within text =
    let digits = prefix_len is_numeral_byte text in
    let exponent = exponent_len (drop digits text) in
    omega (arith, prefix_len-le-length is_numeral_byte text, exponent_within (drop digits text), length-drop digits text, prefix_len-le-length is_name_byte (drop (digits + exponent) text), length-drop (digits + exponent) text)

numeral_some_at : (text : List ℕ) → begins_numeral text ≡ true → 0 < prefix_len is_numeral_byte text
numeral_some_at [] begins = absurd (cc)
numeral_some_at (x ∷ text) begins = run_some is_numeral_byte (x ∷ text) refl (begins_byte x text begins)

pub numeral_some : (text : List ℕ) → begins_numeral text ≡ true → 0 < numeral_len text
unfolding numeral_len
numeral_some text begins = let some = numeral_some_at text begins in omega arith

numeral_within : (at : ℕ) (text : List ℕ) → begins_numeral text ≡ true → IsWithin (numeral_piece at text) (length text)
unfolding numeral_piece
numeral_within at text begins =
    let n = numeral_len text in
    within_choice (is_numeral (take n text)) (Found Numeral n) (Faulty (BadNumeral at)) (length text)
    (λ _. let some = numeral_some text begins in (omega arith, numeral_len_within text)) (λ _. tt)

unless_within : (at : ℕ) (o : Option ℕ) (p : Piece) (n : ℕ) → IsWithin p n → IsWithin (unless_malformed at o p) n
unless_within at None p n h = h
unless_within at (Some k) p n h = tt

-- a byte that is there stands within the text
there_within : (text : List ℕ) (n b : ℕ) → 0 < length text → 0 < b → slice_index (drop 1 text) n ≡ b → n + 2 ≤ length text
there_within text n b some least is =
    elim (order n (length (drop 1 text))) [
      | inl lt ↦ omega (arith, lt, length-drop 1 text)
      | inr past ↦ absurd (omega (arith, get_or_past (drop 1 text) n 0 past, is))
    ]

quoted_within : (at : ℕ) (text : List ℕ) → 0 < length text → (eqb (slice_index text 0) double_quote || eqb (slice_index text 0) single_quote) ≡ true → IsWithin (quoted_piece at text) (length text)
unfolding quoted_piece
quoted_within at text some quote =
    let mark = slice_index text 0 in
    let behind = drop 1 text in
    let m = inside_len mark behind in
    let good = malformed_at (take m behind) in
    within_choice (eqb (slice_index behind m) mark) (unless_malformed at good (Found Quoted (m + 2))) (Faulty (UnfinishedString at)) (length text)
    (λ ends. unless_within at good (Found Quoted (m + 2)) (length text) (omega arith, there_within text m mark some (quote_some mark quote) (eqb-true _ mark ends)))
    (λ _. tt)

part_within : (last further : Kind) (start at : ℕ) (text : List ℕ) → 0 < length text → IsWithin (part_piece last further start at text) (length text)
unfolding part_piece
part_within last further start at text some =
    let behind = drop 1 text in
    let m = inside_len backquote behind in
    let bad = malformed_at (take m behind) in
    let double = eqb (slice_index behind (m + 1)) brace in
    let inner = cond double (Faulty (DoubleBrace (at + 1 + m))) (Found further (m + 2)) in
    let most = length text in
    within_choice (eqb (slice_index behind m) backquote) (unless_malformed at bad (Found last (m + 2))) (cond (eqb (slice_index behind m) brace) (unless_malformed at bad inner) (Faulty (UnfinishedString start))) most
    (λ ends. unless_within at bad (Found last (m + 2)) most (omega arith, there_within text m backquote some (omega arith) (eqb-true _ backquote ends)))
    (λ _. within_choice (eqb (slice_index behind m) brace) (unless_malformed at bad inner) (Faulty (UnfinishedString start)) most
    (λ ends. unless_within at bad inner most
    (within_choice double (Faulty (DoubleBrace (at + 1 + m))) (Found further (m + 2)) most (λ _. tt)
    (λ _. (omega arith, there_within text m brace some (omega arith) (eqb-true _ brace ends)))))
    (λ _. tt))

sign_within : (at : ℕ) (text : List ℕ) → IsWithin (sign_piece at text) (length text)
unfolding sign_piece
sign_within at text =
    let n = sign_len text in
    within_choice (eqb n 0) (Faulty (StrayByte at)) (Found Sign n) (length text) (λ _. tt)
    (λ some. let least = not_none n some in (omega arith, (sign_longest text least).within))

long_within : (o : Option ℕ) (signs at : ℕ) (text : List ℕ) → level text ≡ Some signs → closing_place signs (drop (signs + 2) text) ≡ o → IsWithin (long_of at o signs) (length text)
unfolding long_of
long_within None signs at text opens there = tt
long_within (Some place) signs at text opens there =
    (omega arith, omega (arith, closes_fits signs place (drop (signs + 2) text) there, length-drop (signs + 2) text, opens_fits signs text opens))

bracket_within : (o : Option ℕ) (at : ℕ) (text : List ℕ) → level text ≡ o → IsWithin (bracket_or_sign o at text) (length text)
unfolding bracket_or_sign long_piece
bracket_within None at text opens = sign_within at text
bracket_within (Some signs) at text opens = long_within (closing_place signs (drop (signs + 2) text)) signs at text opens refl

long_comment_within : (o : Option ℕ) (signs at : ℕ) (text : List ℕ) → level (drop 2 text) ≡ Some signs → closing_place signs (drop (signs + 4) text) ≡ o → IsWithin (long_comment_of at o signs) (length text)
unfolding long_comment_of
long_comment_within None signs at text opens there = tt
long_comment_within (Some place) signs at text opens there =
    (omega arith, omega (arith, closes_fits signs place (drop (signs + 4) text) there, length-drop (signs + 4) text, opens_fits signs (drop 2 text) opens, length-drop 2 text))

comment_within : (o : Option ℕ) (at : ℕ) (text : List ℕ) → 2 ≤ length text → level (drop 2 text) ≡ o → IsWithin (comment_of o at text) (length text)
unfolding comment_of
comment_within None at text two opens = (omega arith, omega (arith, prefix_len-le-length is_no_line_feed (drop 2 text), length-drop 2 text))
comment_within (Some signs) at text two opens = long_comment_within (closing_place signs (drop (signs + 4) text)) signs at text opens refl

closing_within : (o : Option ℕ) (at : ℕ) (text : List ℕ) → 0 < length text → IsWithin (closing_piece o at text) (length text)
unfolding closing_piece
closing_within None at text some = sign_within at text
closing_within (Some start) at text some = part_within End Mid start at text some

pub two_minus : (text : List ℕ) → slice_index text 1 ≡ minus → 2 ≤ length text
two_minus [] h = absurd (omega (arith, h))
two_minus (x ∷ []) h = absurd (omega (arith, h))
two_minus (x ∷ y ∷ text) h = omega arith

other_within : (open_brace : Option Open) (at : ℕ) (text : List ℕ) → 0 < length text → IsWithin (other_piece open_brace at text) (length text)
unfolding other_piece comment_piece
other_within open_brace at text some =
    let b = slice_index text 0 in
    let comment = comment_of (level (drop 2 text)) at text in
    let begins = eqb b minus && eqb (slice_index text 1) minus in
    let last = bracket_or_sign (level text) at text in
    let third = cond begins comment last in
    let second = cond (eqb b closing_brace) (closing_piece (part_open open_brace) at text) third in
    let most = length text in
    within_choice (eqb b backquote) (part_piece Whole Begin at at text) second most
    (λ _. part_within Whole Begin at at text some)
    (λ _. within_choice (eqb b closing_brace) (closing_piece (part_open open_brace) at text) third most
    (λ _. closing_within (part_open open_brace) at text some)
    (λ _. within_choice begins comment last most
    (λ opens. and_at (eqb b minus) (eqb (slice_index text 1) minus) opens
    (λ _ second. comment_within (level (drop 2 text)) at text (two_minus text (eqb-true _ minus second)) refl))
    (λ _. bracket_within (level text) at text refl)))

-- a piece at the front has a byte, and lies within the text
pub piece_within : (open_brace : Option Open) (at : ℕ) (text : List ℕ) → 0 < length text → IsWithin (piece open_brace at text) (length text)
unfolding piece
piece_within open_brace at text some =
    let b = slice_index text 0 in
    let quote = eqb b double_quote || eqb b single_quote in
    let other = other_piece open_brace at text in
    let fourth = cond quote (quoted_piece at text) other in
    let third = cond (begins_numeral text) (numeral_piece at text) fourth in
    let second = cond (is_name_start b) (name_piece text) third in
    let most = length text in
    within_choice (is_blank b) (Gap (prefix_len is_blank text)) second most
    (λ blank. let least = run_some is_blank text refl blank in (omega arith, prefix_len-le-length is_blank text))
    (λ _. within_choice (is_name_start b) (name_piece text) third most
    (λ starts. name_within at text starts)
    (λ _. within_choice (begins_numeral text) (numeral_piece at text) fourth most
    (λ begins. numeral_within at text begins)
    (λ _. within_choice quote (quoted_piece at text) other most
    (λ marks. quoted_within at text some marks)
    (λ _. other_within open_brace at text some))))

-- the pieces of what is left, which give what is computed
abbrev pub Cut : List Open → ℕ → List ℕ → Type 0
Cut opens at text = (ps : List Piece) × Reads opens at text ps (tokens_from opens 0 at text)

cut_piece : (opens : List Open) (at : ℕ) (text : List ℕ) (p : Piece) → 0 < length text → piece (innermost opens) at text ≡ p → IsWithin p (length text) → ((opens' : List Open) (n : ℕ) → 1 ≤ n → n ≤ length text → Cut opens' (at + n) (drop n text)) → Cut opens at text
cut_piece opens at text (Gap n) some is within more =
    let h = more opens n within.0 within.1 in
    (Gap n ∷ h.0, (record { some = some; here = is; within = within }, subst (Reads opens (at + n) (drop n text) h.0) (sym (gap_read opens n at text within.0 some is)) h.1))
cut_piece opens at text (Found kind n) some is within more =
    let opens' = opens_behind opens at kind (slice_index text 0) in
    let h = more opens' n within.0 within.1 in
    (Found kind n ∷ h.0, (tokens_from opens' 0 (at + n) (drop n text), record { some = some; here = is; within = within }, h.1, found_read opens kind n at text within.0 some is))
cut_piece opens at text (Faulty e) some is within more =
    (Faulty e ∷ [], (record { some = some; here = is; within = tt }, refl, fault_read opens e at text some is))

cut_within : (fuel : ℕ) (opens : List Open) (at : ℕ) (text : List ℕ) → length text ≤ fuel → Cut opens at text
cut_within fuel opens at [] most = ([], (refl, refl))
cut_within zero opens at (b ∷ text) most = absurd (omega arith)
cut_within (suc fuel) opens at (b ∷ text) most =
    cut_piece opens at (b ∷ text) (piece (innermost opens) at (b ∷ text)) (omega arith) refl (piece_within (innermost opens) at (b ∷ text) (omega arith))
    (λ opens' n least fits. cut_within fuel opens' (at + n) (drop n (b ∷ text)) (omega (arith, length-drop n (b ∷ text), least, most)))

-- each text has what is computed
pub tokens_there : (text : List ℕ) → HasTokens text (tokens_of text)
unfolding tokens_of
tokens_there text =
    let n = first_line_len text in
    let same : tokens_from [] n 0 text ≡ tokens_from [] 0 n (drop n text) = tokens_skip [] n 0 text ∙ ap (λ k. tokens_from [] 0 k (drop n text)) (zero-add n) in
    let h = cut_within (length (drop n text)) [] n (drop n text) (omega arith) in
    (h.0, subst (Reads [] n (drop n text) h.0) (sym same) h.1)
