-- Each token that stands in a text has the form of its kind.
use Rattle.std.proofs.Common.{◌≡◌, ℕ, zero, suc, ◌+◌, ◌<◌, ◌≤◌, Bool, true, false, ◌&&◌, ◌||◌, inl, inr, eqb, cond, List, [], ◌∷◌, ◌++◌, length, take, drop, get_or, slice_index, flat_map, Option, Some, None, sym, refl, ap, subst, ◌∙◌, arith}
use Rattle.std.specs.List.{prefix_len}
use Rattle.std.specs.Char.{is_ascii_digit}
use Rattle.std.proofs.lemmas.Bool.{eqb-true}
use Rattle.luau_lex.specs.declared.token.Kind.{Kind}
use Rattle.luau_lex.specs.declared.token.Kind.TheVariants.{Name, Word, Numeral, Quoted, Long, Whole, Begin, Mid, End, Sign}
use Rattle.luau_lex.specs.declared.token.LexError.TheVariants.{UnfinishedString, BadNumeral, StrayByte, DoubleBrace}
use Rattle.luau_lex.specs.declared.piece.Piece.{Piece}
use Rattle.luau_lex.specs.declared.piece.Piece.TheVariants.{Gap, Found, Faulty}
use Rattle.luau_lex.specs.declared.piece.Open.{Open}
use Rattle.luau_lex.specs.Bytes.{double_quote, single_quote, minus, backquote, brace, closing_brace, dot, is_blank, is_name_start, is_name_byte, is_numeral_byte}
use Rattle.luau_lex.specs.Names.{is_listed, reserved_words, is_name}
use Rattle.luau_lex.specs.Computed.Pieces.{name_kind, name_piece, numeral_piece, unless_malformed, quoted_piece, part_piece, long_len, long_of, long_piece, long_comment_of, comment_of, comment_piece, sign_piece, bracket_or_sign, part_open, closing_piece, other_piece, piece}
use Rattle.luau_lex.specs.Numerals.{begins_numeral}
use Rattle.luau_lex.specs.Computed.Numerals.{numeral_len, is_numeral}
use Rattle.luau_lex.specs.Computed.Signs.{sign_len}
use Rattle.luau_lex.specs.Computed.Brackets.{level, closing_place}
use Rattle.luau_lex.specs.Computed.Strings.{inside_len, malformed_at}
use Rattle.luau_lex.specs.Forms.{IsMarked, IsLong, HasForm}
use Rattle.luau_lex.specs.Spellings.{written, AreSpellings}
use Rattle.luau_lex.proofs.SpellingLemmas.{and_at, or_at}
use Rattle.luau_lex.proofs.NumeralLemmas.{numeral_form_is}
use Rattle.luau_lex.proofs.InsideLemmas.{inside_spelled, inside_front, inside_end}
use Rattle.luau_lex.proofs.MeaningLemmas.{narrow_all, malformed_spelled, none_malformed}
use Rattle.luau_lex.proofs.LongLemmas.{take_marked, long_here}
use Rattle.luau_lex.proofs.LongestLemmas.{name_longest, run_some}
use Rattle.luau_lex.proofs.SignLemmas.{sign_longest}

-- which way a choice went
pub choose : {C : Type 0} (t : Bool) (x y z : Piece) → cond t x y ≡ z → (t ≡ true → x ≡ z → C) → (t ≡ false → y ≡ z → C) → C
choose true x y z h f g = f refl h
choose false x y z h f g = g refl h

pub unless_found : {C : Type 0} (at : ℕ) (o : Option ℕ) (p : Piece) (kind : Kind) (n : ℕ) → unless_malformed at o p ≡ Found kind n → (o ≡ None → p ≡ Found kind n → C) → C
unless_found at None p kind n h f = f refl h
unless_found at (Some k) p kind n h f = absurd (cc)

-- a form, told of an equal kind and length
pub form_at : (k kind : Kind) (n m : ℕ) (text : List ℕ) → Found k n ≡ Found kind m → HasForm k (take n text) → HasForm kind (take m text)
form_at k kind n m text is h =
    let same_kind : k ≡ kind = cc in
    let same_len : n ≡ m = cc in
    subst (λ q. HasForm q (take m text)) same_kind (subst (λ j. HasForm k (take j text)) same_len h)

-- names
kind_form : (bytes : List ℕ) (t : Bool) → is_name bytes ≡ true → is_listed bytes reserved_words ≡ t → HasForm (cond t Word Name) bytes
kind_form bytes true named listed = (named, listed)
kind_form bytes false named listed = (named, listed)

pub name_kind_form : (bytes : List ℕ) → is_name bytes ≡ true → HasForm (name_kind bytes) bytes
unfolding name_kind
name_kind_form bytes named = kind_form bytes (is_listed bytes reserved_words) named refl

name_form : (text : List ℕ) (kind : Kind) (n : ℕ) → is_name_start (slice_index text 0) ≡ true → name_piece text ≡ Found kind n → HasForm kind (take n text)
unfolding name_piece
name_form text kind n starts is =
    let m = prefix_len is_name_byte text in
    form_at (name_kind (take m text)) kind m n text is (name_kind_form (take m text) (name_longest text starts).whole)

-- strings between marks
pub begins_with : (last : ℕ) (text : List ℕ) → 0 < last → slice_index text 0 ≡ last → text ≡ last ∷ drop 1 text
begins_with last [] least is = absurd (omega (arith, is))
begins_with last (b ∷ text) least is = ap (λ k. k ∷ text) is

-- the inside of a string up to the byte that ends it, with no malformed escape
marked : (mark last : ℕ) (text : List ℕ) → 0 < length text → 0 < last → get_or (drop 1 text) (inside_len mark (drop 1 text)) 0 ≡ last → malformed_at (take (inside_len mark (drop 1 text)) (drop 1 text)) ≡ None → IsMarked mark (slice_index text 0) last (take (inside_len mark (drop 1 text) + 2) text)
marked mark last [] some least is good = absurd (omega arith)
marked mark last (x ∷ text) some least is good =
    let r = inside_spelled mark text in
    let inside = flat_map written r.inside in
    let front = inside_front mark text r in
    let next : slice_index r.behind 0 ≡ last = inside_end mark text r ∙ is in
    let behind : r.behind ≡ last ∷ drop 1 r.behind = begins_with last r.behind least next in
    let none : malformed_at inside ≡ None = ap malformed_at (sym front) ∙ good in (
      r.inside,
      take_marked x last (inside_len mark text) text least is ∙ ap (λ l. x ∷ (l ++ last ∷ [])) front,
      narrow_all mark r.inside (last ∷ []) (drop 1 r.behind) (subst (AreSpellings mark r.inside) behind r.spells),
      none_malformed r.inside (sym (malformed_spelled mark r.inside (narrow_all mark r.inside [] r.behind r.spells)) ∙ none),
    )

pub or_right : (a b : Bool) → b ≡ true → a || b ≡ true
or_right true b h = refl
or_right false b h = h

pub not_none : (m : ℕ) → eqb m 0 ≡ false → 0 < m
not_none zero h = absurd (cc)
not_none (suc m) h = omega arith

quote_form : (mark : ℕ) (bytes : List ℕ) → (eqb mark double_quote || eqb mark single_quote) ≡ true → IsMarked mark mark mark bytes → HasForm Quoted bytes
quote_form mark bytes h m =
    or_at (eqb mark double_quote) (eqb mark single_quote) h
    (λ is. inl (subst (λ k. IsMarked k k k bytes) (eqb-true mark double_quote is) m))
    (λ is. inr (subst (λ k. IsMarked k k k bytes) (eqb-true mark single_quote is) m))

pub quote_some : (mark : ℕ) → (eqb mark double_quote || eqb mark single_quote) ≡ true → 0 < mark
quote_some mark h =
    or_at (eqb mark double_quote) (eqb mark single_quote) h
    (λ is. omega (arith, eqb-true mark double_quote is)) (λ is. omega (arith, eqb-true mark single_quote is))

quoted_form : (at : ℕ) (text : List ℕ) (kind : Kind) (n : ℕ) → 0 < length text → (eqb (slice_index text 0) double_quote || eqb (slice_index text 0) single_quote) ≡ true → quoted_piece at text ≡ Found kind n → HasForm kind (take n text)
unfolding quoted_piece
quoted_form at text kind n some quote is =
    let mark = slice_index text 0 in
    let behind = drop 1 text in
    let m = inside_len mark behind in
    let good = malformed_at (take m behind) in
    choose (eqb (slice_index behind m) mark) (unless_malformed at good (Found Quoted (m + 2))) (Faulty (UnfinishedString at)) (Found kind n) is
    (λ ends found. unless_found at good (Found Quoted (m + 2)) kind n found
    (λ none same. form_at Quoted kind (m + 2) n text same
    (quote_form mark (take (m + 2) text) quote (marked mark mark text some (quote_some mark quote) (eqb-true (slice_index behind m) mark ends) none))))
    (λ ends found. absurd (cc))

part_form : (last further : Kind) (start at : ℕ) (text : List ℕ) (kind : Kind) (n : ℕ) → 0 < length text → ((w : List ℕ) → IsMarked backquote (slice_index text 0) backquote w → HasForm last w) → ((w : List ℕ) → IsMarked backquote (slice_index text 0) brace w → HasForm further w) → part_piece last further start at text ≡ Found kind n → HasForm kind (take n text)
unfolding part_piece
part_form last further start at text kind n some is_last is_further is =
    let behind = drop 1 text in
    let m = inside_len backquote behind in
    let bad = malformed_at (take m behind) in
    let double = eqb (slice_index behind (m + 1)) brace in
    let inner = cond double (Faulty (DoubleBrace (at + 1 + m))) (Found further (m + 2)) in
    choose (eqb (slice_index behind m) backquote) (unless_malformed at bad (Found last (m + 2))) (cond (eqb (slice_index behind m) brace) (unless_malformed at bad inner) (Faulty (UnfinishedString start))) (Found kind n) is
    (λ ends found. unless_found at bad (Found last (m + 2)) kind n found
    (λ none same. form_at last kind (m + 2) n text same
    (is_last (take (m + 2) text) (marked backquote backquote text some (omega arith) (eqb-true (slice_index behind m) backquote ends) none))))
    (λ _ more. choose (eqb (slice_index behind m) brace) (unless_malformed at bad inner) (Faulty (UnfinishedString start)) (Found kind n) more
    (λ ends found. unless_found at bad inner kind n found
    (λ none same. choose double (Faulty (DoubleBrace (at + 1 + m))) (Found further (m + 2)) (Found kind n) same
    (λ _ wrong. absurd (cc))
    (λ _ same'. form_at further kind (m + 2) n text same'
    (is_further (take (m + 2) text) (marked backquote brace text some (omega arith) (eqb-true (slice_index behind m) brace ends) none)))))
    (λ _ wrong. absurd (cc)))

-- long brackets
long_closed : (signs at : ℕ) (text : List ℕ) (kind : Kind) (n : ℕ) (o : Option ℕ) → closing_place signs (drop (signs + 2) text) ≡ o → level text ≡ Some signs → long_of at o signs ≡ Found kind n → HasForm kind (take n text)
unfolding long_of
long_closed signs at text kind n None place opens is = absurd (cc)
long_closed signs at text kind n (Some place) there opens is =
    let whole : long_len signs (signs + 2) place ≡ (signs + 2) + (place + (signs + 2)) = omega arith in
    let body = take place (drop (signs + 2) text) in
    form_at Long kind (long_len signs (signs + 2) place) n text is
    (signs, body, subst (λ k. IsLong signs body (take k text)) (sym whole) (long_here signs place text opens there))

long_form : (signs at : ℕ) (text : List ℕ) (kind : Kind) (n : ℕ) → level text ≡ Some signs → long_piece signs at text ≡ Found kind n → HasForm kind (take n text)
unfolding long_piece
long_form signs at text kind n opens is = long_closed signs at text kind n (closing_place signs (drop (signs + 2) text)) refl opens is

-- signs
sign_form : (at : ℕ) (text : List ℕ) (kind : Kind) (n : ℕ) → sign_piece at text ≡ Found kind n → HasForm kind (take n text)
unfolding sign_piece
sign_form at text kind n is =
    let m = sign_len text in
    choose (eqb m 0) (Faulty (StrayByte at)) (Found Sign m) (Found kind n) is
    (λ none wrong. absurd (cc))
    (λ some same. form_at Sign kind m n text same (sign_longest text (not_none m some)).whole)

-- numerals
pub begins_byte : (x : ℕ) (l : List ℕ) → begins_numeral (x ∷ l) ≡ true → is_numeral_byte x ≡ true
begins_byte x l h =
    or_at (is_ascii_digit x) (eqb x dot && is_ascii_digit (slice_index (x ∷ l) 1)) h
    (λ digit. ap (λ t. (t || eqb x 95) || eqb x dot) digit)
    (λ more. and_at (eqb x dot) (is_ascii_digit (slice_index (x ∷ l) 1)) more
    (λ is _. or_right ((is_ascii_digit x) || eqb x 95) (eqb x dot) is))

digit_first : (x y : ℕ) (l : List ℕ) → prefix_len is_numeral_byte (x ∷ y ∷ l) ≤ 1 → begins_numeral (x ∷ y ∷ l) ≡ true → begins_numeral (x ∷ []) ≡ true
digit_first x y l most h =
    or_at (is_ascii_digit x) (eqb x dot && is_ascii_digit y) h
    (λ digit. ap (λ t. t || (eqb x dot && is_ascii_digit 0)) digit)
    (λ more. and_at (eqb x dot) (is_ascii_digit y) more
    (λ is digit.
    let first = ap (λ b. cond b (1 + prefix_len is_numeral_byte (y ∷ l)) 0) (or_right ((is_ascii_digit x) || eqb x 95) (eqb x dot) is) in
    let second = ap (λ b. cond b (1 + prefix_len is_numeral_byte l) 0) (ap (λ t. (t || eqb y 95) || eqb y dot) digit) in
    absurd (omega (arith, most, first, second))))

take_none : (n : ℕ) → ◌≡◌ {A = List ℕ} (take n []) []
take_none zero = refl
take_none (suc n) = refl

pub begins_front : (text : List ℕ) (n : ℕ) → prefix_len is_numeral_byte text ≤ n → begins_numeral text ≡ true → begins_numeral (take n text) ≡ true
begins_front [] n most h = absurd (cc)
begins_front (x ∷ l) zero most h = absurd (omega (arith, most, run_some is_numeral_byte (x ∷ l) refl (begins_byte x l h)))
begins_front (x ∷ []) (suc n) most h = ap (λ l. begins_numeral (x ∷ l)) (take_none n) ∙ h
begins_front (x ∷ y ∷ l) (suc zero) most h = digit_first x y l most h
begins_front (x ∷ y ∷ l) (suc (suc n)) most h = h

pub digits_most : (text : List ℕ) → prefix_len is_numeral_byte text ≤ numeral_len text
unfolding numeral_len
digits_most text = omega arith

numeral_form : (at : ℕ) (text : List ℕ) (kind : Kind) (n : ℕ) → begins_numeral text ≡ true → numeral_piece at text ≡ Found kind n → HasForm kind (take n text)
unfolding numeral_piece
numeral_form at text kind n begins is =
    let m = numeral_len text in
    choose (is_numeral (take m text)) (Found Numeral m) (Faulty (BadNumeral at)) (Found kind n) is
    (λ yes same. form_at Numeral kind m n text same (numeral_form_is (take m text) (begins_front text m (digits_most text) begins) yes))
    (λ no wrong. absurd (cc))

-- what begins with none of a blank, a name, a numeral and a quote
long_no_token : (o : Option ℕ) (signs at : ℕ) (kind : Kind) (n : ℕ) {C : Type 0} → long_comment_of at o signs ≡ Found kind n → C
unfolding long_comment_of
long_no_token None signs at kind n is = absurd (cc)
long_no_token (Some place) signs at kind n is = absurd (cc)

pub comment_no_token : (o : Option ℕ) (at : ℕ) (text : List ℕ) (kind : Kind) (n : ℕ) {C : Type 0} → comment_of o at text ≡ Found kind n → C
unfolding comment_of
comment_no_token None at text kind n is = absurd (cc)
comment_no_token (Some signs) at text kind n is = long_no_token (closing_place signs (drop (signs + 4) text)) signs at kind n is

bracket_form : (o : Option ℕ) (at : ℕ) (text : List ℕ) (kind : Kind) (n : ℕ) → level text ≡ o → bracket_or_sign o at text ≡ Found kind n → HasForm kind (take n text)
unfolding bracket_or_sign
bracket_form None at text kind n opens is = sign_form at text kind n is
bracket_form (Some signs) at text kind n opens is = long_form signs at text kind n opens is

closing_form : (o : Option ℕ) (at : ℕ) (text : List ℕ) (kind : Kind) (n : ℕ) → 0 < length text → slice_index text 0 ≡ closing_brace → closing_piece o at text ≡ Found kind n → HasForm kind (take n text)
unfolding closing_piece
closing_form None at text kind n some first is = sign_form at text kind n is
closing_form (Some start) at text kind n some first is =
    part_form End Mid start at text kind n some
    (λ w h. subst (λ b. IsMarked backquote b backquote w) first h) (λ w h. subst (λ b. IsMarked backquote b brace w) first h) is

other_form : (open_brace : Option Open) (at : ℕ) (text : List ℕ) (kind : Kind) (n : ℕ) → 0 < length text → other_piece open_brace at text ≡ Found kind n → HasForm kind (take n text)
unfolding other_piece comment_piece
other_form open_brace at text kind n some is =
    let b = slice_index text 0 in
    let comment = comment_of (level (drop 2 text)) at text in
    let begins = eqb b minus && eqb (slice_index text 1) minus in
    let last = bracket_or_sign (level text) at text in
    let third = cond begins comment last in
    let second = cond (eqb b closing_brace) (closing_piece (part_open open_brace) at text) third in
    choose (eqb b backquote) (part_piece Whole Begin at at text) second (Found kind n) is
    (λ first found. part_form Whole Begin at at text kind n some
    (λ w h. subst (λ b. IsMarked backquote b backquote w) (eqb-true b backquote first) h) (λ w h. subst (λ b. IsMarked backquote b brace w) (eqb-true b backquote first) h) found)
    (λ _ more. choose (eqb b closing_brace) (closing_piece (part_open open_brace) at text) third (Found kind n) more
    (λ first found. closing_form (part_open open_brace) at text kind n some (eqb-true b closing_brace first) found)
    (λ _ more'. choose begins comment last (Found kind n) more'
    (λ _ found. comment_no_token (level (drop 2 text)) at text kind n found)
    (λ _ found. bracket_form (level text) at text kind n refl found)))

-- a token that stands at a place has the form of its kind
pub piece_form : (open_brace : Option Open) (at : ℕ) (text : List ℕ) (kind : Kind) (n : ℕ) → 0 < length text → piece open_brace at text ≡ Found kind n → HasForm kind (take n text)
unfolding piece
piece_form open_brace at text kind n some is =
    let b = slice_index text 0 in
    let quote = eqb b double_quote || eqb b single_quote in
    let other = other_piece open_brace at text in
    let fourth = cond quote (quoted_piece at text) other in
    let third = cond (begins_numeral text) (numeral_piece at text) fourth in
    let second = cond (is_name_start b) (name_piece text) third in
    choose (is_blank b) (Gap (prefix_len is_blank text)) second (Found kind n) is
    (λ _ wrong. absurd (cc))
    (λ _ more. choose (is_name_start b) (name_piece text) third (Found kind n) more
    (λ starts found. name_form text kind n starts found)
    (λ _ more'. choose (begins_numeral text) (numeral_piece at text) fourth (Found kind n) more'
    (λ begins found. numeral_form at text kind n begins found)
    (λ _ more''. choose quote (quoted_piece at text) other (Found kind n) more''
    (λ marks found. quoted_form at text kind n some marks found)
    (λ _ found. other_form open_brace at text kind n some found))))
