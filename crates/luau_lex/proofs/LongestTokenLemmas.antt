-- No token of a text could be longer at its place, and its braces match.
use Rattle.std.proofs.Common.{◌≡◌, inl, inr, ℕ, ◌<◌, ◌≤◌, Bool, true, false, ◌&&◌, ◌||◌, eqb, cond, List, [], ◌∷◌, ◌++◌, length, take, drop, slice_index, Option, Some, None, is_some, sym, refl, ap, subst, ◌∙◌, arith, eqb-true, ne_eqb, length-append}
use Rattle.std.specs.Prelude.{codes, not}
use Rattle.std.specs.List.{prefix_len, list_all, list_any}
use Rattle.std.specs.Char.{is_ascii_digit}
use Rattle.std.proofs.str.Laws.{order}
use Rattle.std.proofs.Math.Seq.{take-append_seam}
use Rattle.luau_lex.specs.declared.token.Kind.{Kind}
use Rattle.luau_lex.specs.declared.token.Kind.TheVariants.{Name, Word, Numeral, Quoted, Long, Whole, Begin, Mid, End, Sign}
use Rattle.luau_lex.specs.declared.token.LexError.TheVariants.{StrayByte}
use Rattle.luau_lex.specs.declared.piece.Piece.TheVariants.{Gap, Found, Faulty}
use Rattle.luau_lex.specs.declared.piece.Open.{Open}
use Rattle.luau_lex.specs.Bytes.{bracket, dot, double_quote, single_quote, minus, backquote, closing_brace, is_blank, is_name_start}
use Rattle.luau_lex.specs.Numerals.{begins_numeral}
use Rattle.luau_lex.specs.Computed.Signs.{sign_len, sign_len_of}
use Rattle.luau_lex.specs.Signs.{is_sign}
use Rattle.luau_lex.specs.Computed.Brackets.{level}
use Rattle.luau_lex.specs.Computed.Strings.{ends_inside}
use Rattle.luau_lex.specs.Computed.Pieces.{name_piece, numeral_piece, quoted_piece, part_piece, comment_of, comment_piece, sign_piece, bracket_or_sign, part_open, closing_piece, other_piece, piece}
use Rattle.luau_lex.specs.Computed.Tokens.{IsWithin}
use Rattle.luau_lex.specs.Forms.{HasForm}
use Rattle.luau_lex.specs.Braces.{goes_on_with_string}
use Rattle.luau_lex.proofs.SpellingLemmas.{or_at, and_at}
use Rattle.luau_lex.proofs.SignLemmas.{sign_longest, sign_missing}
use Rattle.luau_lex.proofs.FormLemmas.{choose, comment_no_token}
use Rattle.luau_lex.proofs.ExistLemmas.{piece_within}
use Rattle.luau_lex.proofs.NumeralLemmas.{numeral_is_read}
use Rattle.luau_lex.proofs.PlaceLemmas.{name_bound, numeral_bound, quoted_bound, last_bound, further_bound, long_bound, at_double, at_single, at_backquote, at_closing, opens_byte, found_len}

-- a byte of a class is none that isn't
other_byte : (p : ℕ → Bool) (a k : ℕ) → p a ≡ true → p k ≡ false → eqb a k ≡ false
other_byte p a k h none = ne_eqb a k (λ same. let wrong = ap p same in cc)

-- the bytes with which signs begin
abbrev sign_firsts : List ℕ
sign_firsts = codes "./+*%^=<>~-:#(){}[];,?|&@"

is_no : (t : Bool) → not t ≡ true → t ≡ false
is_no true h = absurd (cc)
is_no false h = refl

-- none of the listed bytes is of the class
none_listed : (p : ℕ → Bool) (ks : List ℕ) (k : ℕ) → list_all (λ j. not (p j)) ks ≡ true → list_any (eqb k) ks ≡ true → p k ≡ false
none_listed p [] k none there = absurd (cc)
none_listed p (j ∷ ks) k none there =
    and_at (not (p j)) (list_all (λ i. not (p i)) ks) none
    (λ here more. or_at (eqb k j) (list_any (eqb k) ks) there (λ same. ap p (eqb-true k j same) ∙ is_no (p j) here) (none_listed p ks k more))

-- where a byte stands of a class in which no sign begins, no sign stands
class_no_sign : (p : ℕ → Bool) (a b c : ℕ) → list_all (λ k. not (p k)) sign_firsts ≡ true → p a ≡ true → sign_len_of a b c ≡ 0
unfolding sign_len_of
class_no_sign p a b c outside h =
    let other : (k : ℕ) → list_any (eqb k) sign_firsts ≡ true → eqb a k ≡ false = λ k there. other_byte p a k h (none_listed p sign_firsts k outside there) in
    let e46 : eqb a 46 ≡ false = other 46 refl in
    let e47 : eqb a 47 ≡ false = other 47 refl in
    let e43 : eqb a 43 ≡ false = other 43 refl in
    let e42 : eqb a 42 ≡ false = other 42 refl in
    let e37 : eqb a 37 ≡ false = other 37 refl in
    let e94 : eqb a 94 ≡ false = other 94 refl in
    let e61 : eqb a 61 ≡ false = other 61 refl in
    let e60 : eqb a 60 ≡ false = other 60 refl in
    let e62 : eqb a 62 ≡ false = other 62 refl in
    let e126 : eqb a 126 ≡ false = other 126 refl in
    let e45 : eqb a 45 ≡ false = other 45 refl in
    let e58 : eqb a 58 ≡ false = other 58 refl in
    let e35 : eqb a 35 ≡ false = other 35 refl in
    let e40 : eqb a 40 ≡ false = other 40 refl in
    let e41 : eqb a 41 ≡ false = other 41 refl in
    let e123 : eqb a 123 ≡ false = other 123 refl in
    let e125 : eqb a 125 ≡ false = other 125 refl in
    let e91 : eqb a 91 ≡ false = other 91 refl in
    let e93 : eqb a 93 ≡ false = other 93 refl in
    let e59 : eqb a 59 ≡ false = other 59 refl in
    let e44 : eqb a 44 ≡ false = other 44 refl in
    let e63 : eqb a 63 ≡ false = other 63 refl in
    let e124 : eqb a 124 ≡ false = other 124 refl in
    let e38 : eqb a 38 ≡ false = other 38 refl in
    let e64 : eqb a 64 ≡ false = other 64 refl in
    simp (e46, e47, e43, e42, e37, e94, e61, e60, e62, e126, e45, e58, e35, e40, e41, e123, e125, e91, e93, e59, e44, e63, e124, e38, e64)

pub name_no_sign : (a b c : ℕ) → is_name_start a ≡ true → sign_len_of a b c ≡ 0
name_no_sign a b c h = class_no_sign is_name_start a b c refl h

pub digit_no_sign : (a b c : ℕ) → is_ascii_digit a ≡ true → sign_len_of a b c ≡ 0
digit_no_sign a b c h = class_no_sign is_ascii_digit a b c refl h

pub blank_no_sign : (a b c : ℕ) → is_blank a ≡ true → sign_len_of a b c ≡ 0
blank_no_sign a b c h = class_no_sign is_blank a b c refl h

pub digit_behind_dot : (b c : ℕ) → is_ascii_digit b ≡ true → sign_len_of dot b c ≡ 1
unfolding sign_len_of
digit_behind_dot b c h = grind arith

numeral_sign : (text : List ℕ) → begins_numeral text ≡ true → sign_len text ≤ 1
numeral_sign text begins =
    let a = slice_index text 0 in
    let b = slice_index text 1 in
    let c = slice_index text 2 in
    or_at (is_ascii_digit a) (eqb a dot && is_ascii_digit b) begins
    (λ digit. omega (arith, digit_no_sign a b c digit))
    (λ h. and_at (eqb a dot) (is_ascii_digit b) h
    (λ first second. omega (arith, ap (λ k. sign_len_of k b c) (eqb-true a dot first), digit_behind_dot b c second)))

-- where such a byte stands a sign is no longer than this
first_sign : (text : List ℕ) (k most : ℕ) → slice_index text 0 ≡ k → ((b c : ℕ) → sign_len_of k b c ≤ most) → sign_len text ≤ most
first_sign text k most is h = subst (λ a. sign_len_of a (slice_index text 1) (slice_index text 2) ≤ most) (sym is) (h (slice_index text 1) (slice_index text 2))

double_sign : (b c : ℕ) → sign_len_of double_quote b c ≤ 1
unfolding sign_len_of
double_sign b c = omega arith

single_sign : (b c : ℕ) → sign_len_of single_quote b c ≤ 1
unfolding sign_len_of
single_sign b c = omega arith

backquote_sign : (b c : ℕ) → sign_len_of backquote b c ≤ 1
unfolding sign_len_of
backquote_sign b c = omega arith

closing_sign : (b c : ℕ) → sign_len_of closing_brace b c ≤ 1
unfolding sign_len_of
closing_sign b c = omega arith

bracket_sign : (b c : ℕ) → sign_len_of bracket b c ≤ 1
unfolding sign_len_of
bracket_sign b c = omega arith

sign_found : (at : ℕ) (text : List ℕ) (k : Kind) (n : ℕ) → sign_piece at text ≡ Found k n → sign_len text ≤ n
unfolding sign_piece
sign_found at text k n is =
    choose (eqb (sign_len text) 0) (Faulty (StrayByte at)) (Found Sign (sign_len text)) (Found k n) is
    (λ _ wrong. absurd (cc)) (λ _ same. omega (arith, found_len Sign k (sign_len text) n same))

bracket_found : (o : Option ℕ) (at : ℕ) (text : List ℕ) (k : Kind) (n : ℕ) → level text ≡ o → 1 ≤ n → bracket_or_sign o at text ≡ Found k n → sign_len text ≤ n
unfolding bracket_or_sign
bracket_found None at text k n opens least is = sign_found at text k n is
bracket_found (Some signs) at text k n opens least is = let most = first_sign text bracket 1 (opens_byte text signs opens) bracket_sign in omega arith

no_found_comment : (o : Option ℕ) (at : ℕ) (text : List ℕ) (k : Kind) (n : ℕ) → comment_of o at text ≡ Found k n → sign_len text ≤ n
no_found_comment o at text k n is = absurd (comment_no_token o at text k n is)

other_sign : (ob : Option Open) (at : ℕ) (text : List ℕ) (k : Kind) (n : ℕ) → 1 ≤ n → other_piece ob at text ≡ Found k n → sign_len text ≤ n
unfolding other_piece comment_piece
other_sign ob at text k n least is =
    let b = slice_index text 0 in
    let comment = comment_of (level (drop 2 text)) at text in
    let begins = eqb b minus && eqb (slice_index text 1) minus in
    let last = bracket_or_sign (level text) at text in
    let third = cond begins comment last in
    let second = cond (eqb b closing_brace) (closing_piece (part_open ob) at text) third in
    choose (eqb b backquote) (part_piece Whole Begin at at text) second (Found k n) is
    (λ first _. let most = first_sign text backquote 1 (eqb-true b backquote first) backquote_sign in omega arith)
    (λ _ more. choose (eqb b closing_brace) (closing_piece (part_open ob) at text) third (Found k n) more
    (λ first _. let most = first_sign text closing_brace 1 (eqb-true b closing_brace first) closing_sign in omega arith)
    (λ _ more'. choose begins comment last (Found k n) more'
    (λ _ found. no_found_comment (level (drop 2 text)) at text k n found)
    (λ _ found. bracket_found (level text) at text k n refl least found)))

-- the token that is read is no shorter than a sign that stands there
piece_sign : (ob : Option Open) (at : ℕ) (text : List ℕ) (k : Kind) (n : ℕ) → 1 ≤ n → piece ob at text ≡ Found k n → sign_len text ≤ n
unfolding piece
piece_sign ob at text k n least is =
    let b = slice_index text 0 in
    let quote = eqb b double_quote || eqb b single_quote in
    let other = other_piece ob at text in
    let fourth = cond quote (quoted_piece at text) other in
    let third = cond (begins_numeral text) (numeral_piece at text) fourth in
    let second = cond (is_name_start b) (name_piece text) third in
    choose (is_blank b) (Gap (prefix_len is_blank text)) second (Found k n) is
    (λ _ wrong. absurd (cc))
    (λ _ more. choose (is_name_start b) (name_piece text) third (Found k n) more
    (λ starts _. omega (arith, name_no_sign b (slice_index text 1) (slice_index text 2) starts))
    (λ _ more'. choose (begins_numeral text) (numeral_piece at text) fourth (Found k n) more'
    (λ begins _. omega (arith, numeral_sign text begins))
    (λ _ more''. choose quote (quoted_piece at text) other (Found k n) more''
    (λ marks _. or_at (eqb b double_quote) (eqb b single_quote) marks
    (λ first. let most = first_sign text double_quote 1 (eqb-true b double_quote first) double_sign in omega arith)
    (λ first. let most = first_sign text single_quote 1 (eqb-true b single_quote first) single_sign in omega arith))
    (λ _ found. other_sign ob at text k n least found))))

found_within : (ob : Option Open) (at : ℕ) (text : List ℕ) (k : Kind) (n : ℕ) → 0 < length text → piece ob at text ≡ Found k n → (1 ≤ n) × (n ≤ length text)
found_within ob at text k n some is = subst (λ p. IsWithin p (length text)) is (piece_within ob at text some)

-- a sign at the front is no longer than the longest
pub sign_most : (w more : List ℕ) → is_sign w ≡ true → length w ≤ sign_len (w ++ more)
sign_most w more is =
    let text = w ++ more in
    let m = length w in
    let front : take m text ≡ w = take-append_seam w more in
    let fits : m ≤ length text = omega (arith, length-append w more) in
    let sign : is_sign (take m text) ≡ true = ap is_sign front ∙ is in
    elim (order (sign_len text) m) [
      | inr most ↦ most
      | inl longer ↦ absurd (elim (order 0 (sign_len text)) [
        | inl some ↦ (let none = (sign_longest text some).none_longer m longer fits in cc)
        | inr zeroth ↦ (let none = sign_missing text m (omega (arith, zeroth)) (omega (arith, longer)) fits in cc)
      ])
    ]

sign_bound : (ob : Option Open) (at : ℕ) (w more : List ℕ) (k : Kind) (n : ℕ) → 0 < length (w ++ more) → is_sign w ≡ true → piece ob at (w ++ more) ≡ Found k n → length w ≤ n
sign_bound ob at w more k n some sign is =
    let within = found_within ob at (w ++ more) k n some is in
    omega (arith, sign_most w more sign, piece_sign ob at (w ++ more) k n within.0 is)

-- where an interpolated string is to be gone on with
pub closing_start : (ob : Option Open) (start : ℕ) → part_open ob ≡ Some start → (at : ℕ) (rest : List ℕ) → piece ob at (closing_brace ∷ rest) ≡ part_piece End Mid start at (closing_brace ∷ rest)
unfolding closing_piece
closing_start ob start goes at rest = at_closing ob at rest ∙ ap (λ o. closing_piece o at (closing_brace ∷ rest)) goes

pub some_of : (o : Option ℕ) → is_some o ≡ true → (n : ℕ) × (o ≡ Some n)
some_of None h = absurd (cc)
some_of (Some n) h = (n, refl)

-- what is of a form and may stand there is no longer than the token that is read
pub form_bound : (kind : Kind) (ob : Option Open) (at : ℕ) (w more : List ℕ) (k : Kind) (n : ℕ) → 0 < length (w ++ more) → (goes_on_with_string kind ≡ true → is_some (part_open ob) ≡ true) → HasForm kind w → piece ob at (w ++ more) ≡ Found k n → length w ≤ n
unfolding ends_inside
form_bound Name ob at w more k n some may form is = name_bound ob at w more k n form.0 is
form_bound Word ob at w more k n some may form is = name_bound ob at w more k n form.0 is
form_bound Numeral ob at w more k n some may form is =
    let read = numeral_is_read w form in numeral_bound ob at w more k n read.0 read.1 is
form_bound Quoted ob at w more k n some may (inl form) is =
    quoted_bound double_quote ob at w more k n (omega arith) (λ same. omega (arith, same)) refl (at_double ob at) form is
form_bound Quoted ob at w more k n some may (inr form) is =
    quoted_bound single_quote ob at w more k n (omega arith) (λ same. omega (arith, same)) refl (at_single ob at) form is
form_bound Long ob at w more k n some may form is = long_bound ob at form.0 form.1 w more k n form.2 is
form_bound Whole ob at w more k n some may form is = last_bound Whole Begin backquote at ob at w more k n (omega arith) (at_backquote ob at) form is
form_bound Begin ob at w more k n some may form is = further_bound Whole Begin backquote at ob at w more k n (omega arith) (at_backquote ob at) form is
form_bound Mid ob at w more k n some may form is =
    let goes = some_of (part_open ob) (may refl) in
    further_bound End Mid closing_brace goes.0 ob at w more k n (omega arith) (closing_start ob goes.0 goes.1 at) form is
form_bound End ob at w more k n some may form is =
    let goes = some_of (part_open ob) (may refl) in
    last_bound End Mid closing_brace goes.0 ob at w more k n (omega arith) (closing_start ob goes.0 goes.1 at) form is
form_bound Sign ob at w more k n some may form is = sign_bound ob at w more k n some form is
