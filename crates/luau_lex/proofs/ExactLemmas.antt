-- What meets the laws on tokens is the list of tokens of the text: tokens.
use Rattle.std.proofs.Common.{◌≡◌, ◌≢◌, inl, inr, ℕ, ◌+◌, ◌<◌, ◌≤◌, Bool, true, false, ◌&&◌, ◌||◌, eqb, cond, List, [], ◌∷◌, ◌++◌, length, take, drop, slice_index, Option, Some, None, is_some, sym, refl, ap, ◌∙◌, arith, get_or-drop, eqb-true, ne_eqb}
use Rattle.std.specs.List.{prefix_len, list_all}
use Rattle.std.specs.Char.{is_ascii_digit}
use Rattle.std.proofs.str.Laws.{order}
use Rattle.std.proofs.Math.Seq.{take-append_seam}
use Rattle.std.proofs.lemmas.List.{get_or-append-add}
use Rattle.std.proofs.lemmas.List.Sums.{prefix_len-le-length}
use Rattle.luau_lex.specs.declared.token.Kind.{Kind}
use Rattle.luau_lex.specs.declared.token.Kind.TheVariants.{Name, Word, Numeral, Quoted, Long, Whole, Begin, Mid, End, Sign}
use Rattle.luau_lex.specs.declared.token.LexError.TheVariants.{BadNumeral, StrayByte, DoubleBrace}
use Rattle.luau_lex.specs.declared.piece.Piece.{Piece}
use Rattle.luau_lex.specs.declared.piece.Piece.TheVariants.{Gap, Found, Faulty}
use Rattle.luau_lex.specs.declared.piece.Open.{Open}
use Rattle.luau_lex.specs.Bytes.{backslash, bracket, dot, double_quote, single_quote, minus, backquote, brace, closing_brace, is_blank, is_name_start, is_name_byte, is_digit_or_underscore}
use Rattle.luau_lex.specs.Names.{is_listed, reserved_words, is_name}
use Rattle.luau_lex.specs.Computed.Pieces.{name_kind, name_piece, numeral_piece, quoted_piece, part_piece, long_len, comment_piece, sign_piece, bracket_or_sign, part_open, innermost, closing_piece, other_piece, piece}
use Rattle.luau_lex.specs.Numerals.{begins_numeral}
use Rattle.luau_lex.specs.Computed.Numerals.{numeral_len, is_exponent_or_none, after_fraction, is_decimal, is_numeral}
use Rattle.luau_lex.specs.Computed.Signs.{sign_len, sign_len_of}
use Rattle.luau_lex.specs.Signs.{is_sign}
use Rattle.luau_lex.specs.Computed.Brackets.{level, closing_place}
use Rattle.luau_lex.specs.Computed.Strings.{ends_inside, inside_len}
use Rattle.luau_lex.proofs.LongestLemmas.{Longest}
use Rattle.luau_lex.specs.Forms.{IsMarked, IsLong, HasForm, NoneOpens}
use Rattle.luau_lex.specs.Braces.{string_open, goes_on_with_string, MayStand}
use Rattle.luau_lex.specs.LongestTokens.{NoLongerToken, NoLongerWord, NoComment, leaves_string}
use Rattle.luau_lex.proofs.SpellingLemmas.{or_at, and_at, run_least}
use Rattle.luau_lex.proofs.LongestLemmas.{name_longest}
use Rattle.luau_lex.proofs.SignLemmas.{sign_longest}
use Rattle.luau_lex.proofs.LongLemmas.{long_again}
use Rattle.luau_lex.proofs.RefuseLemmas.{marked_again}
use Rattle.luau_lex.proofs.WordLemmas.{word_longest, word_there, numeral_word}
use Rattle.luau_lex.proofs.FormLemmas.{begins_with, name_kind_form, begins_front, digits_most}
use Rattle.luau_lex.proofs.ExistLemmas.{numeral_len_within}
use Rattle.luau_lex.proofs.NumeralLemmas.{numeral_form_is, numeral_is_read}
use Rattle.luau_lex.proofs.PlaceLemmas.{at_name, at_numeral, at_double, at_single, at_backquote, at_bracket, first_append, begins_append, quoted_exact, last_exact, further_exact, long_exact, opens_byte}
use Rattle.luau_lex.proofs.LongestTokenLemmas.{name_no_sign, digit_no_sign, digit_behind_dot, blank_no_sign, some_of, closing_start, sign_most}
use Rattle.luau_lex.proofs.FaultLemmas.{opened_whole}
use Rattle.luau_lex.proofs.TokenLemmas.{outward, innermost_is}

pub false_of : (t : Bool) → (t ≡ true → ⊥) → t ≡ false
false_of true h = absurd (h refl)
false_of false h = refl

-- a front that no longer one is like is as long as this
pub no_more : (n m : ℕ) → n ≤ m → (n < m → ⊥) → m ≡ n
no_more n m least longer = elim (order n m) [ inl lt ↦ absurd (longer lt) | inr le ↦ omega arith ]

named_stays : (t : Bool) {C : Type 0} → goes_on_with_string (cond t Word Name) ≡ true → C
named_stays true h = absurd (cc)
named_stays false h = absurd (cc)

name_may : (braces : List Open) (bytes : List ℕ) → MayStand braces (name_kind bytes)
unfolding name_kind
name_may braces bytes goes = named_stays (is_listed bytes reserved_words) goes

listed_kind : (bytes : List ℕ) → is_listed bytes reserved_words ≡ true → name_kind bytes ≡ Word
unfolding name_kind
listed_kind bytes h = ap (λ t. cond t Word Name) h

unlisted_kind : (bytes : List ℕ) → is_listed bytes reserved_words ≡ false → name_kind bytes ≡ Name
unfolding name_kind
unlisted_kind bytes h = ap (λ t. cond t Word Name) h

name_there : (braces : List Open) (ob : Option Open) (at : ℕ) (w more : List ℕ) → is_name w ≡ true → NoLongerToken braces (w ++ more) (length w) → piece ob at (w ++ more) ≡ Found (name_kind (take (length w) (w ++ more))) (length w)
unfolding name_piece
name_there braces ob at w more named longer =
    let text = w ++ more in
    let p = prefix_len is_name_byte text in
    and_at (is_name_start (slice_index w 0)) (list_all is_name_byte w) named
    (λ starts all.
    let starts' = first_append is_name_start w more refl starts in
    let whole = (name_longest text starts').whole in
    let same : p ≡ length w = no_more (length w) p (run_least is_name_byte w more all) (λ lt. longer (name_kind (take p text)) p lt (prefix_len-le-length is_name_byte text) (name_may braces (take p text)) (name_kind_form (take p text) whole)) in
    at_name ob at text starts' ∙ ap (λ n. Found (name_kind (take n text)) n) same)

numeral_there : (ob : Option Open) (at : ℕ) (w more : List ℕ) → begins_numeral w ≡ true → is_numeral w ≡ true → NoLongerWord (w ++ more) (length w) → piece ob at (w ++ more) ≡ Found Numeral (length w)
unfolding numeral_piece
numeral_there ob at w more begins numeral longer =
    let text = w ++ more in
    let m = numeral_len text in
    let begins' = begins_append w more begins in
    let same : m ≡ length w = no_more (length w) m (word_longest w more (numeral_word w begins numeral)) (λ lt. longer m lt (numeral_len_within text) (word_there text begins' (begins_front text m (digits_most text) begins'))) in
    at_numeral ob at text begins'
    ∙ ap (λ n. cond (is_numeral (take n text)) (Found Numeral n) (Faulty (BadNumeral at))) same
    ∙ ap (λ l. cond (is_numeral l) (Found Numeral (length w)) (Faulty (BadNumeral at))) (take-append_seam w more)
    ∙ ap (λ t. cond t (Found Numeral (length w)) (Faulty (BadNumeral at))) numeral

quoted_there : (mark : ℕ) (ob : Option Open) (at : ℕ) (w more : List ℕ) → 0 < mark → mark ≢ backslash → ends_inside mark mark ≡ true → ((rest : List ℕ) → piece ob at (mark ∷ rest) ≡ quoted_piece at (mark ∷ rest)) → IsMarked mark mark mark w → piece ob at (w ++ more) ≡ Found Quoted (length w)
quoted_there mark ob at w more least other ends there form =
    let text = w ++ more in
    let h = marked_again mark mark mark w more other ends form in
    let whole : text ≡ mark ∷ drop 1 text = begins_with mark text least h.0 in
    ap (piece ob at) whole ∙ there (drop 1 text) ∙ quoted_exact mark at (drop 1 text) h.2 h.3 ∙ ap (Found Quoted) h.1

last_there : (last further : Kind) (first start : ℕ) (ob : Option Open) (at : ℕ) (w more : List ℕ) → 0 < first → ((rest : List ℕ) → piece ob at (first ∷ rest) ≡ part_piece last further start at (first ∷ rest)) → IsMarked backquote first backquote w → piece ob at (w ++ more) ≡ Found last (length w)
unfolding ends_inside
last_there last further first start ob at w more least there form =
    let text = w ++ more in
    let h = marked_again backquote first backquote w more (λ same. omega (arith, same)) refl form in
    let whole : text ≡ first ∷ drop 1 text = begins_with first text least h.0 in
    ap (piece ob at) whole ∙ there (drop 1 text) ∙ last_exact last further start at first (drop 1 text) h.2 h.3 ∙ ap (Found last) h.1

-- the byte behind a front, counted from its second
byte_after : (w more : List ℕ) (m : ℕ) → m + 2 ≡ length w → slice_index (drop 1 (w ++ more)) (m + 1) ≡ slice_index more 0
byte_after w more m width =
    let far : 1 + (m + 1) ≡ length w + 0 = omega (arith, width) in
    get_or-drop 1 (w ++ more) (m + 1) 0 ∙ ap (slice_index (w ++ more)) far ∙ get_or-append-add w more 0 0

further_there : (last further : Kind) (first start : ℕ) (ob : Option Open) (at : ℕ) (w more : List ℕ) → 0 < first → ((rest : List ℕ) → piece ob at (first ∷ rest) ≡ part_piece last further start at (first ∷ rest)) → slice_index more 0 ≢ brace → IsMarked backquote first brace w → piece ob at (w ++ more) ≡ Found further (length w)
unfolding ends_inside
further_there last further first start ob at w more least there single form =
    let text = w ++ more in
    let h = marked_again backquote first brace w more (λ same. omega (arith, same)) refl form in
    let whole : text ≡ first ∷ drop 1 text = begins_with first text least h.0 in
    let m = inside_len backquote (drop 1 text) in
    let next : eqb (slice_index (drop 1 text) (m + 1)) brace ≡ false = ne_eqb _ brace (λ braced. single (sym (byte_after w more m h.1) ∙ braced)) in
    ap (piece ob at) whole ∙ there (drop 1 text) ∙ further_exact last further start at first (drop 1 text) h.2 h.3
    ∙ ap (λ t. cond t (Faulty (DoubleBrace (at + 1 + m))) (Found further (m + 2))) next ∙ ap (Found further) h.1

long_there : (ob : Option Open) (at signs : ℕ) (body w more : List ℕ) → IsLong signs body w → piece ob at (w ++ more) ≡ Found Long (length w)
long_there ob at signs body w more form =
    let text = w ++ more in
    let h = long_again signs body w more form in
    let whole : text ≡ bracket ∷ drop 1 text = begins_with bracket text (omega arith) (opens_byte text signs h.0) in
    let opens' : level (bracket ∷ drop 1 text) ≡ Some signs = ap level (sym whole) ∙ h.0 in
    let closes' = ap (λ l. closing_place signs (drop (signs + 2) l)) (sym whole) ∙ h.1 in
    let width : long_len signs (signs + 2) (length body) ≡ length w = omega (arith, h.2) in
    ap (piece ob at) whole ∙ at_bracket ob at (drop 1 text) ∙ long_exact signs (length body) at (drop 1 text) opens' closes' ∙ ap (Found Long) width

-- signs
pub no_sign_first : (text : List ℕ) (k : ℕ) → 0 < sign_len text → ((b c : ℕ) → sign_len_of k b c ≡ 0) → eqb (slice_index text 0) k ≡ false
no_sign_first text k some none =
    ne_eqb (slice_index text 0) k
    (λ same. let zeroth = ap (λ a. sign_len_of a (slice_index text 1) (slice_index text 2)) same ∙ none (slice_index text 1) (slice_index text 2) in
    omega (arith, some, zeroth))

pub no_double : (b c : ℕ) → sign_len_of double_quote b c ≡ 0
unfolding sign_len_of
no_double b c = refl

pub no_single : (b c : ℕ) → sign_len_of single_quote b c ≡ 0
unfolding sign_len_of
no_single b c = refl

no_back : (b c : ℕ) → sign_len_of backquote b c ≡ 0
unfolding sign_len_of
no_back b c = refl

dot_digit : (d : ℕ) → is_ascii_digit d ≡ true → is_numeral (dot ∷ d ∷ []) ≡ true
unfolding is_numeral is_decimal after_fraction is_exponent_or_none
dot_digit d digit =
    let one : prefix_len is_digit_or_underscore (d ∷ []) ≡ 1 = ap (λ t. cond (t || eqb d 95) (1 + 0) 0) digit in
    ap (λ n. is_exponent_or_none (drop n (d ∷ []))) one

-- a dot before a digit is no sign
dot_longer : (braces : List Open) (text : List ℕ) (n : ℕ) → NoLongerToken braces text n → n ≤ 1 → slice_index text 0 ≡ dot → is_ascii_digit (slice_index text 1) ≡ true → ⊥
dot_longer braces [] n longer most first digit = omega (arith, first)
dot_longer braces (a ∷ []) n longer most first digit = cc
dot_longer braces (a ∷ b ∷ text) n longer most first digit =
    let whole : a ∷ b ∷ [] ≡ dot ∷ b ∷ [] = ap (λ k. k ∷ b ∷ []) first in
    let begins : begins_numeral (dot ∷ b ∷ []) ≡ true = digit in
    longer Numeral 2 (omega arith) (omega arith) (λ goes. absurd (cc)) (numeral_form_is (a ∷ b ∷ []) (ap begins_numeral whole ∙ begins) (ap is_numeral whole ∙ dot_digit b digit))

no_numeral_first : (braces : List Open) (text : List ℕ) (n : ℕ) → NoLongerToken braces text n → sign_len text ≡ n → 0 < n → begins_numeral text ≡ false
no_numeral_first braces text n longer len some =
    let a = slice_index text 0 in
    let b = slice_index text 1 in
    let c = slice_index text 2 in
    false_of (begins_numeral text)
    (λ begins. or_at (is_ascii_digit a) (eqb a dot && is_ascii_digit b) begins
    (λ digit. omega (arith, digit_no_sign a b c digit, len, some))
    (λ h. and_at (eqb a dot) (is_ascii_digit b) h
    (λ first second. dot_longer braces text n longer (omega (arith, ap (λ k. sign_len_of k b c) (eqb-true a dot first), digit_behind_dot b c second, len)) (eqb-true a dot first) second)))

sign_is : (at n : ℕ) (text : List ℕ) → sign_len text ≡ n → 0 < n → sign_piece at text ≡ Found Sign n
unfolding sign_piece
sign_is at n text len some =
    ap (λ k. cond (eqb k 0) (Faulty (StrayByte at)) (Found Sign k)) len
    ∙ ap (λ t. cond t (Faulty (StrayByte at)) (Found Sign n)) (ne_eqb n 0 (λ same. omega (arith, same, some)))

closing_is : (o : Option ℕ) (at : ℕ) (text : List ℕ) → o ≡ None → closing_piece o at text ≡ sign_piece at text
unfolding closing_piece
closing_is o at text none = ap (λ p. closing_piece p at text) none

bracket_is : (o : Option ℕ) (at : ℕ) (text : List ℕ) → level text ≡ o → NoneOpens text → bracket_or_sign o at text ≡ sign_piece at text
unfolding bracket_or_sign
bracket_is None at text is none = refl
bracket_is (Some signs) at text is none = absurd (none signs (drop (signs + 2) text) (opened_whole signs text is))

closing_or : (t : Bool) (x y z : Piece) → (t ≡ true → x ≡ z) → (t ≡ false → y ≡ z) → cond t x y ≡ z
closing_or true x y z f g = f refl
closing_or false x y z f g = g refl

two_there : (text : List ℕ) → slice_index text 0 ≡ minus → slice_index text 1 ≡ minus → (rest : List ℕ) × (text ≡ minus ∷ minus ∷ rest)
two_there [] a b = absurd (omega (arith, a))
two_there (x ∷ []) a b = absurd (omega (arith, b))
two_there (x ∷ y ∷ text) a b = (text, ap (λ k. k ∷ y ∷ text) a ∙ ap (λ k. minus ∷ k ∷ text) b)

pub other_is_sign : (ob : Option Open) (at : ℕ) (text : List ℕ) → eqb (slice_index text 0) backquote ≡ false → (slice_index text 0 ≡ closing_brace → part_open ob ≡ None) → NoComment text → NoneOpens text → other_piece ob at text ≡ sign_piece at text
unfolding other_piece
other_is_sign ob at text back closes comment opens =
    let b = slice_index text 0 in
    let last = bracket_or_sign (level text) at text in
    let begins = eqb b minus && eqb (slice_index text 1) minus in
    let third = cond begins (comment_piece at text) last in
    let second = cond (eqb b closing_brace) (closing_piece (part_open ob) at text) third in
    let no_comment : begins ≡ false = false_of begins (λ h. and_at (eqb b minus) (eqb (slice_index text 1) minus) h (λ one two. let there = two_there text (eqb-true _ minus one) (eqb-true _ minus two) in comment there.0 there.1)) in
    ap (λ t. cond t (part_piece Whole Begin at at text) second) back
    ∙ closing_or (eqb b closing_brace) (closing_piece (part_open ob) at text) third (sign_piece at text)
    (λ first. closing_is (part_open ob) at text (closes (eqb-true b closing_brace first)))
    (λ _. ap (λ t. cond t (comment_piece at text) last) no_comment ∙ bracket_is (level text) at text refl opens)

sign_there : (braces : List Open) (ob : Option Open) (at : ℕ) (w more : List ℕ) → 0 < length w → is_sign w ≡ true → NoLongerToken braces (w ++ more) (length w) → (slice_index (w ++ more) 0 ≡ closing_brace → part_open ob ≡ None) → NoComment (w ++ more) → NoneOpens (w ++ more) → piece ob at (w ++ more) ≡ Found Sign (length w)
unfolding piece
sign_there braces ob at w more some sign longer closes comment opens =
    let text = w ++ more in
    let n = length w in
    let a = slice_index text 0 in
    let b = slice_index text 1 in
    let c = slice_index text 2 in
    let least = sign_most w more sign in
    let best : Longest is_sign text (sign_len text) = sign_longest text (omega (arith, least, some)) in
    let len : sign_len text ≡ n = no_more n (sign_len text) least (λ lt. longer Sign (sign_len text) lt best.within (λ goes. absurd (cc)) best.whole) in
    let there : 0 < sign_len text = omega (arith, len, some) in
    let blank : is_blank a ≡ false = false_of (is_blank a) (λ h. omega (arith, blank_no_sign a b c h, there)) in
    let name : is_name_start a ≡ false = false_of (is_name_start a) (λ h. omega (arith, name_no_sign a b c h, there)) in
    let numeral = no_numeral_first braces text n longer len some in
    let other = other_piece ob at text in
    let fourth = cond (eqb a double_quote || eqb a single_quote) (quoted_piece at text) other in
    let third = cond (begins_numeral text) (numeral_piece at text) fourth in
    ap (λ t. cond t (Gap (prefix_len is_blank text)) (cond (is_name_start a) (name_piece text) third)) blank
    ∙ ap (λ t. cond t (name_piece text) third) name
    ∙ ap (λ t. cond t (numeral_piece at text) fourth) numeral
    ∙ ap (λ t. cond (t || eqb a single_quote) (quoted_piece at text) other) (no_sign_first text double_quote there no_double)
    ∙ ap (λ t. cond t (quoted_piece at text) other) (no_sign_first text single_quote there no_single)
    ∙ other_is_sign ob at text (no_sign_first text backquote there no_back) closes comment opens
    ∙ sign_is at n text len some

first_kept : (w more : List ℕ) → 0 < length w → slice_index (w ++ more) 0 ≡ slice_index w 0
first_kept [] more some = absurd (omega arith)
first_kept (x ∷ w) more some = refl

-- A token that meets the laws at its place is read there.
pub token_there : (kind : Kind) (braces : List Open) (at : ℕ) (w more : List ℕ) → 0 < length w → HasForm kind w → MayStand braces kind → (kind ≡ Sign → slice_index w 0 ≡ closing_brace → string_open braces ≡ None) → NoLongerToken braces (w ++ more) (length w) → (kind ≡ Numeral → NoLongerWord (w ++ more) (length w)) → NoComment (w ++ more) → (kind ≡ Sign → NoneOpens (w ++ more)) → (leaves_string kind ≡ true → slice_index more 0 ≢ brace) → piece (innermost (outward braces)) at (w ++ more) ≡ Found kind (length w)
unfolding ends_inside
token_there Name braces at w more some form may closes longer word comment opens single =
    name_there braces (innermost (outward braces)) at w more form.0 longer
    ∙ ap (λ k. Found k (length w)) (ap name_kind (take-append_seam w more) ∙ unlisted_kind w form.1)
token_there Word braces at w more some form may closes longer word comment opens single =
    name_there braces (innermost (outward braces)) at w more form.0 longer
    ∙ ap (λ k. Found k (length w)) (ap name_kind (take-append_seam w more) ∙ listed_kind w form.1)
token_there Numeral braces at w more some form may closes longer word comment opens single =
    let read = numeral_is_read w form in numeral_there (innermost (outward braces)) at w more read.0 read.1 (word refl)
token_there Quoted braces at w more some (inl form) may closes longer word comment opens single =
    quoted_there double_quote (innermost (outward braces)) at w more (omega arith) (λ same. omega (arith, same)) refl (at_double (innermost (outward braces)) at) form
token_there Quoted braces at w more some (inr form) may closes longer word comment opens single =
    quoted_there single_quote (innermost (outward braces)) at w more (omega arith) (λ same. omega (arith, same)) refl (at_single (innermost (outward braces)) at) form
token_there Long braces at w more some form may closes longer word comment opens single =
    long_there (innermost (outward braces)) at form.0 form.1 w more form.2
token_there Whole braces at w more some form may closes longer word comment opens single =
    last_there Whole Begin backquote at (innermost (outward braces)) at w more (omega arith) (at_backquote (innermost (outward braces)) at) form
token_there Begin braces at w more some form may closes longer word comment opens single =
    further_there Whole Begin backquote at (innermost (outward braces)) at w more (omega arith) (at_backquote (innermost (outward braces)) at) (single refl) form
token_there Mid braces at w more some form may closes longer word comment opens single =
    let goes = some_of (part_open (innermost (outward braces))) (ap is_some (innermost_is braces) ∙ may refl) in
    further_there End Mid closing_brace goes.0 (innermost (outward braces)) at w more (omega arith) (closing_start (innermost (outward braces)) goes.0 goes.1 at) (single refl) form
token_there End braces at w more some form may closes longer word comment opens single =
    let goes = some_of (part_open (innermost (outward braces))) (ap is_some (innermost_is braces) ∙ may refl) in
    last_there End Mid closing_brace goes.0 (innermost (outward braces)) at w more (omega arith) (closing_start (innermost (outward braces)) goes.0 goes.1 at) form
token_there Sign braces at w more some form may closes longer word comment opens single =
    sign_there braces (innermost (outward braces)) at w more some form longer
    (λ first. innermost_is braces ∙ closes refl (sym (first_kept w more some) ∙ first)) comment (opens refl)
