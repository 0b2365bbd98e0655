-- What stands between the tokens of a text is blanks and comments.
use Rattle.std.proofs.Common.{◌≡◌, ℕ, suc, ◌+◌, ◌-◌, ◌≤◌, Bool, true, false, ◌&&◌, ◌||◌, not, inl, inr, eqb, cond, List, [], ◌∷◌, ◌++◌, length, take, drop, slice_index, Option, Some, None, sym, refl, ap, subst, ◌∙◌, arith}
use Rattle.std.specs.List.{prefix_len}
use Rattle.std.proofs.Math.Seq.{take-add}
use Rattle.std.proofs.lemmas.Bool.{eqb-true}
use Rattle.std.proofs.lemmas.List.{take-append-drop, drop-drop}
use Rattle.luau_lex.proofs.FormLemmas.{choose}
use Rattle.luau_lex.proofs.LongLemmas.{none_opens, long_here}
use Rattle.luau_lex.specs.declared.token.Kind.{Kind}
use Rattle.luau_lex.specs.declared.token.Kind.TheVariants.{Numeral, Quoted, Whole, Begin, Mid, End, Sign}
use Rattle.luau_lex.specs.declared.token.LexError.TheVariants.{UnfinishedString, BadNumeral, StrayByte, DoubleBrace}
use Rattle.luau_lex.specs.declared.piece.Piece.{Piece}
use Rattle.luau_lex.specs.declared.piece.Piece.TheVariants.{Gap, Found, Faulty}
use Rattle.luau_lex.specs.declared.piece.Open.{Open}
use Rattle.luau_lex.specs.Bytes.{line_feed, double_quote, single_quote, minus, backquote, brace, closing_brace, is_blank, is_name_start, is_no_line_feed}
use Rattle.luau_lex.specs.Numerals.{begins_numeral}
use Rattle.luau_lex.specs.Computed.Numerals.{numeral_len, is_numeral}
use Rattle.luau_lex.specs.Computed.Signs.{sign_len}
use Rattle.luau_lex.specs.Computed.Brackets.{level, closing_place}
use Rattle.luau_lex.specs.Computed.Strings.{inside_len, malformed_at}
use Rattle.luau_lex.specs.Computed.Pieces.{name_piece, numeral_piece, unless_malformed, quoted_piece, part_piece, long_len, long_of, long_piece, long_comment_of, comment_of, comment_piece, sign_piece, bracket_or_sign, part_open, closing_piece, other_piece, piece}
use Rattle.luau_lex.specs.Forms.{EndsLine, IsGapPart, IsGapOf, IsGap}
use Rattle.luau_lex.proofs.LongestLemmas.{blanks_longest, run_all}

-- what is no gap
name_no_gap : {C : Type 0} (text : List ℕ) (n : ℕ) → name_piece text ≡ Gap n → C
unfolding name_piece
name_no_gap text n is = absurd (cc)

numeral_no_gap : {C : Type 0} (at : ℕ) (text : List ℕ) (n : ℕ) → numeral_piece at text ≡ Gap n → C
unfolding numeral_piece
numeral_no_gap at text n is =
    let m = numeral_len text in
    choose (is_numeral (take m text)) (Found Numeral m) (Faulty (BadNumeral at)) (Gap n) is (λ _ h. absurd (cc)) (λ _ h. absurd (cc))

unless_no_gap : {C : Type 0} (at : ℕ) (o : Option ℕ) (p : Piece) (n : ℕ) → (p ≡ Gap n → C) → unless_malformed at o p ≡ Gap n → C
unless_no_gap at None p n never is = never is
unless_no_gap at (Some k) p n never is = absurd (cc)

quoted_no_gap : {C : Type 0} (at : ℕ) (text : List ℕ) (n : ℕ) → quoted_piece at text ≡ Gap n → C
unfolding quoted_piece
quoted_no_gap at text n is =
    let mark = slice_index text 0 in
    let behind = drop 1 text in
    let m = inside_len mark behind in
    let good = malformed_at (take m behind) in
    choose (eqb (slice_index behind m) mark) (unless_malformed at good (Found Quoted (m + 2))) (Faulty (UnfinishedString at)) (Gap n) is
    (λ _ h. unless_no_gap at good (Found Quoted (m + 2)) n (λ wrong. absurd (cc)) h)
    (λ _ h. absurd (cc))

part_no_gap : {C : Type 0} (last further : Kind) (start at : ℕ) (text : List ℕ) (n : ℕ) → part_piece last further start at text ≡ Gap n → C
unfolding part_piece
part_no_gap last further start at text n is =
    let behind = drop 1 text in
    let m = inside_len backquote behind in
    let bad = malformed_at (take m behind) in
    let double = eqb (slice_index behind (m + 1)) brace in
    let inner = cond double (Faulty (DoubleBrace (at + 1 + m))) (Found further (m + 2)) in
    choose (eqb (slice_index behind m) backquote) (unless_malformed at bad (Found last (m + 2))) (cond (eqb (slice_index behind m) brace) (unless_malformed at bad inner) (Faulty (UnfinishedString start))) (Gap n) is
    (λ _ h. unless_no_gap at bad (Found last (m + 2)) n (λ wrong. absurd (cc)) h)
    (λ _ more. choose (eqb (slice_index behind m) brace) (unless_malformed at bad inner) (Faulty (UnfinishedString start)) (Gap n) more
    (λ _ h. unless_no_gap at bad inner n
    (λ wrong. choose double (Faulty (DoubleBrace (at + 1 + m))) (Found further (m + 2)) (Gap n) wrong (λ _ w. absurd (cc)) (λ _ w. absurd (cc))) h)
    (λ _ h. absurd (cc)))

sign_no_gap : {C : Type 0} (at : ℕ) (text : List ℕ) (n : ℕ) → sign_piece at text ≡ Gap n → C
unfolding sign_piece
sign_no_gap at text n is =
    let m = sign_len text in
    choose (eqb m 0) (Faulty (StrayByte at)) (Found Sign m) (Gap n) is (λ _ h. absurd (cc)) (λ _ h. absurd (cc))

long_no_gap : {C : Type 0} (o : Option ℕ) (signs at n : ℕ) → long_of at o signs ≡ Gap n → C
unfolding long_of
long_no_gap None signs at n is = absurd (cc)
long_no_gap (Some place) signs at n is = absurd (cc)

bracket_no_gap : {C : Type 0} (o : Option ℕ) (at : ℕ) (text : List ℕ) (n : ℕ) → bracket_or_sign o at text ≡ Gap n → C
unfolding bracket_or_sign long_piece
bracket_no_gap None at text n is = sign_no_gap at text n is
bracket_no_gap (Some signs) at text n is = long_no_gap (closing_place signs (drop (signs + 2) text)) signs at n is

closing_no_gap : {C : Type 0} (o : Option ℕ) (at : ℕ) (text : List ℕ) (n : ℕ) → closing_piece o at text ≡ Gap n → C
unfolding closing_piece
closing_no_gap None at text n is = sign_no_gap at text n is
closing_no_gap (Some start) at text n is = part_no_gap End Mid start at text n is

-- comments
same_gap : (n m : ℕ) (text : List ℕ) → Gap n ≡ Gap m → IsGapPart (take n text) (drop n text) → IsGapPart (take m text) (drop m text)
same_gap n m text is h = let same : n ≡ m = cc in subst (λ k. IsGapPart (take k text) (drop k text)) same h

-- a line that goes on, or ends
not_false : (t : Bool) → not t ≡ false → t ≡ true
not_false true h = refl
not_false false h = absurd (cc)

feed_of : (b : ℕ) → is_no_line_feed b ≡ false → b ≡ line_feed
feed_of b h = eqb-true b line_feed (not_false (eqb b line_feed) h)

line_ends_at : (b : ℕ) (text : List ℕ) (t : Bool) → is_no_line_feed b ≡ t → EndsLine (drop (prefix_len is_no_line_feed text) text) → EndsLine (drop (cond t (1 + prefix_len is_no_line_feed text) 0) (b ∷ text))
line_ends_at b text true h more =
    let next : 1 + prefix_len is_no_line_feed text ≡ suc (prefix_len is_no_line_feed text) = omega arith in
    subst (λ k. EndsLine (drop k (b ∷ text))) (sym next) more
line_ends_at b text false h more = inr (feed_of b h)

-- a line goes to a line feed, or to the end of the text
line_ends : (text : List ℕ) → EndsLine (drop (prefix_len is_no_line_feed text) text)
line_ends [] = inl refl
line_ends (b ∷ text) = line_ends_at b text (is_no_line_feed b) refl (line_ends text)

-- two bytes, and what follows them
two_then : (m : ℕ) (text : List ℕ) → 2 ≤ length text → slice_index text 0 ≡ minus → slice_index text 1 ≡ minus → take (2 + m) text ≡ minus ∷ minus ∷ take m (drop 2 text)
two_then m [] some a b = absurd (omega arith)
two_then m (x ∷ []) some a b = absurd (omega arith)
two_then m (x ∷ y ∷ text) some a b =
    let next : 2 + m ≡ suc (suc m) = omega arith in
    ap (λ k. take k (x ∷ y ∷ text)) next ∙ ap (λ z. z ∷ y ∷ take m text) a ∙ ap (λ z. minus ∷ z ∷ take m text) b

line_gap : (text : List ℕ) → 2 ≤ length text → slice_index text 0 ≡ minus → slice_index text 1 ≡ minus → level (drop 2 text) ≡ None → IsGapPart (take (2 + prefix_len is_no_line_feed (drop 2 text)) text) (drop (2 + prefix_len is_no_line_feed (drop 2 text)) text)
line_gap text some a b none =
    let line = drop 2 text in
    let m = prefix_len is_no_line_feed line in
    inr (inl (
      take m line,
      two_then m text some a b,
      run_all is_no_line_feed line,
      none_opens (take m line) (drop m line) (ap level (take-append-drop m line) ∙ none),
      subst EndsLine (drop-drop m 2 text) (line_ends line),
    ))

long_gap : (at signs : ℕ) (text : List ℕ) (n : ℕ) (o : Option ℕ) → 2 ≤ length text → slice_index text 0 ≡ minus → slice_index text 1 ≡ minus → level (drop 2 text) ≡ Some signs → closing_place signs (drop (signs + 4) text) ≡ o → long_comment_of at o signs ≡ Gap n → IsGapPart (take n text) (drop n text)
unfolding long_comment_of
long_gap at signs text n None some a b opens there is = absurd (cc)
long_gap at signs text n (Some place) some a b opens there is =
    let l = drop 2 text in
    let far : 2 + (signs + 2) ≡ signs + 4 = omega arith in
    let same_behind : drop (signs + 2) l ≡ drop (signs + 4) text = drop-drop (signs + 2) 2 text ∙ ap (λ k. drop k text) far in
    let m = (signs + 2) + (place + (signs + 2)) in
    let whole : long_len signs (signs + 4) place ≡ 2 + m = omega arith in
    same_gap (long_len signs (signs + 4) place) n text is
    (inr (inr (
      signs,
      take place (drop (signs + 2) l),
      take m l,
      ap (λ k. take k text) whole ∙ two_then m text some a b,
      long_here signs place l opens (ap (closing_place signs) same_behind ∙ there),
    )))

comment_gap : (at : ℕ) (text : List ℕ) (n : ℕ) (o : Option ℕ) → 2 ≤ length text → slice_index text 0 ≡ minus → slice_index text 1 ≡ minus → level (drop 2 text) ≡ o → comment_of o at text ≡ Gap n → IsGapPart (take n text) (drop n text)
unfolding comment_of
comment_gap at text n None some a b opens is =
    same_gap (2 + prefix_len is_no_line_feed (drop 2 text)) n text is (line_gap text some a b opens)
comment_gap at text n (Some signs) some a b opens is =
    long_gap at signs text n (closing_place signs (drop (signs + 4) text)) some a b opens refl is

two_bytes : (text : List ℕ) → slice_index text 1 ≡ minus → 2 ≤ length text
two_bytes [] h = absurd (omega (arith, h))
two_bytes (x ∷ []) h = absurd (omega (arith, h))
two_bytes (x ∷ y ∷ text) h = omega arith

both : {C : Type 0} (a b : Bool) → a && b ≡ true → (a ≡ true → b ≡ true → C) → C
both true b h f = f refl h
both false b h f = absurd (cc)

other_gap : (open_brace : Option Open) (at : ℕ) (text : List ℕ) (n : ℕ) → other_piece open_brace at text ≡ Gap n → IsGapPart (take n text) (drop n text)
unfolding other_piece comment_piece
other_gap open_brace at text n is =
    let b = slice_index text 0 in
    let comment = comment_of (level (drop 2 text)) at text in
    let begins = eqb b minus && eqb (slice_index text 1) minus in
    let last = bracket_or_sign (level text) at text in
    let third = cond begins comment last in
    let second = cond (eqb b closing_brace) (closing_piece (part_open open_brace) at text) third in
    choose (eqb b backquote) (part_piece Whole Begin at at text) second (Gap n) is
    (λ _ h. part_no_gap Whole Begin at at text n h)
    (λ _ more. choose (eqb b closing_brace) (closing_piece (part_open open_brace) at text) third (Gap n) more
    (λ _ h. closing_no_gap (part_open open_brace) at text n h)
    (λ _ more'. choose begins comment last (Gap n) more'
    (λ opens h. both (eqb b minus) (eqb (slice_index text 1) minus) opens
    (λ first second. comment_gap at text n (level (drop 2 text)) (two_bytes text (eqb-true (slice_index text 1) minus second)) (eqb-true b minus first) (eqb-true (slice_index text 1) minus second) refl h))
    (λ _ h. bracket_no_gap (level text) at text n h)))

-- a gap at a place is blanks or a comment
pub piece_gap : (open_brace : Option Open) (at : ℕ) (text : List ℕ) (n : ℕ) → piece open_brace at text ≡ Gap n → IsGapPart (take n text) (drop n text)
unfolding piece
piece_gap open_brace at text n is =
    let b = slice_index text 0 in
    let quote = eqb b double_quote || eqb b single_quote in
    let other = other_piece open_brace at text in
    let fourth = cond quote (quoted_piece at text) other in
    let third = cond (begins_numeral text) (numeral_piece at text) fourth in
    let second = cond (is_name_start b) (name_piece text) third in
    choose (is_blank b) (Gap (prefix_len is_blank text)) second (Gap n) is
    (λ blank h. same_gap (prefix_len is_blank text) n text h (inl (blanks_longest text blank).whole))
    (λ _ more. choose (is_name_start b) (name_piece text) third (Gap n) more
    (λ _ h. name_no_gap text n h)
    (λ _ more'. choose (begins_numeral text) (numeral_piece at text) fourth (Gap n) more'
    (λ _ h. numeral_no_gap at text n h)
    (λ _ more''. choose quote (quoted_piece at text) other (Gap n) more''
    (λ _ h. quoted_no_gap at text n h)
    (λ _ h. other_gap open_brace at text n h))))

-- a gap behind a part of one
pub gap_behind : (n k : ℕ) (text : List ℕ) → IsGapPart (take n text) (drop n text) → IsGap (take k (drop n text)) (drop k (drop n text)) → IsGap (take (n + k) text) (drop (n + k) text)
gap_behind n k text form h =
    let rest = take k (drop n text) in
    let left = drop-drop k n text in (
      take n text ∷ h.0,
      (
        rest,
        subst (IsGapPart (take n text)) (sym (take-append-drop k (drop n text)) ∙ ap (λ l. rest ++ l) left) form,
        take-add n k text,
        subst (IsGapOf h.0 rest) left h.1,
      ),
    )

-- the gap before a token behind a part of one
pub gap_before : (at n start : ℕ) (text : List ℕ) → at + n ≤ start → IsGapPart (take n text) (drop n text) → IsGap (take (start - (at + n)) (drop n text)) (drop (start - (at + n)) (drop n text)) → IsGap (take (start - at) text) (drop (start - at) text)
gap_before at n start text order form h =
    let far : n + (start - (at + n)) ≡ start - at = omega arith in
    subst (λ k. IsGap (take k text) (drop k text)) far (gap_behind n (start - (at + n)) text form h)
