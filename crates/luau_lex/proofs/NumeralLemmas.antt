-- A word is read as a numeral where it is of the form of one.
use Rattle.std.proofs.Common.{◌≡◌, ◌⊎◌, inl, inr, ℕ, zero, suc, ◌+◌, Bool, true, false, ◌&&◌, ◌||◌, eqb, cond, List, [], ◌∷◌, ◌++◌, length, take, drop, slice_index, sym, refl, ap, subst, ◌∙◌, arith, append_assoc, append-nil, eqb-true, eq-eqb, ne_eqb}
use Rattle.std.specs.Prelude.{All, codes}
use Rattle.std.specs.List.{prefix_len, list_all, list_any}
use Rattle.std.specs.Char.{is_ascii_digit, is_ascii_hexdigit}
use Rattle.std.proofs.Math.Seq.{drop-append_seam}
use Rattle.std.proofs.lemmas.List.{take-append-drop}
use Rattle.luau_lex.specs.Bytes.{dot, is_digit_or_underscore, is_hex_or_underscore, is_binary_or_underscore, is_exponent_letter, is_exponent_sign}
use Rattle.luau_lex.specs.Numerals.{begins_numeral, IsDigits, IsExponent, IsMantissa, IsDecimal, IsHexadecimal, IsBinary, IsNumeral}
use Rattle.luau_lex.specs.Computed.Numerals.{exponent_len, is_digits, is_exponent_or_none, after_fraction, is_decimal, is_hex_part, is_binary_part, is_numeral}
use Rattle.luau_lex.proofs.LongestLemmas.{run_all}
use Rattle.luau_lex.proofs.SpellingLemmas.{or_at, and_at, both_at, run_exact}
use Rattle.luau_lex.proofs.WordLemmas.{all_of_len, choose_is}

-- digits are told by their bytes
digits_form : (text : List ℕ) → is_digits text ≡ true → IsDigits text
unfolding is_digits
digits_form [] is = absurd (cc)
digits_form (b ∷ text) is =
    and_at (is_ascii_digit b) (eqb (prefix_len is_digit_or_underscore (b ∷ text)) (length (b ∷ text))) is
    (λ digit whole. and_at (is_digit_or_underscore b) (list_all is_digit_or_underscore text) (all_of_len is_digit_or_underscore (b ∷ text) (eqb-true _ _ whole))
    (λ _ rest. (b, text, refl, digit, rest)))

exponent_form_at : (b : ℕ) (text : List ℕ) (s : Bool) → is_exponent_letter b ≡ true → is_exponent_sign (slice_index text 0) ≡ s → is_digits (drop (cond s 2 1) (b ∷ text)) ≡ true → IsExponent (b ∷ text)
exponent_form_at b text false letter sign is = inr (b, text, letter, digits_form text is, inl refl)
exponent_form_at b [] true letter sign is = absurd (cc)
exponent_form_at b (c ∷ text) true letter sign is = inr (b, text, letter, digits_form text is, inr (c, sign, refl))

exponent_form : (text : List ℕ) → is_exponent_or_none text ≡ true → IsExponent text
unfolding is_exponent_or_none exponent_len
exponent_form [] is = inl refl
exponent_form (b ∷ text) is =
    let some : eqb (length (b ∷ text)) 0 ≡ false = ne_eqb _ 0 (λ same. omega (arith, same)) in
    let here = sym (ap (λ t. cond t true (is_exponent_letter b && is_digits (drop (exponent_len (b ∷ text)) (b ∷ text)))) some) ∙ is in
    and_at (is_exponent_letter b) (is_digits (drop (exponent_len (b ∷ text)) (b ∷ text))) here
    (λ letter digits. exponent_form_at b text (is_exponent_sign (slice_index text 0)) letter refl
    (ap (λ t. is_digits (drop (cond t (cond (is_exponent_sign (slice_index text 0)) 2 1) 0) (b ∷ text))) (sym letter) ∙ digits))

-- a front of digits that begins with one
front_digits : (b : ℕ) (text : List ℕ) → is_ascii_digit b ≡ true → IsDigits (take (prefix_len is_digit_or_underscore (b ∷ text)) (b ∷ text))
front_digits b text digit =
    let n = prefix_len is_digit_or_underscore text in
    let next : prefix_len is_digit_or_underscore (b ∷ text) ≡ suc n = ap (λ t. cond (t || eqb b 95) (1 + n) 0) digit ∙ omega arith in
    (b, take n text, ap (λ k. take k (b ∷ text)) next, digit, run_all is_digit_or_underscore text)

mantissa_at : (text rest : List ℕ) (t : Bool) → IsDigits text → eqb (slice_index rest 0) dot ≡ t → (fraction : List ℕ) × (rest ≡ fraction ++ cond t (drop (prefix_len is_digit_or_underscore (drop 1 rest)) (drop 1 rest)) rest) × IsMantissa (text ++ fraction)
mantissa_at text rest false digits is = ([], refl, inl (subst IsDigits (sym (append-nil text)) digits))
mantissa_at text [] true digits is = absurd (cc)
mantissa_at text (b ∷ rest) true digits is =
    let n = prefix_len is_digit_or_underscore rest in (
      b ∷ take n rest,
      ap (λ l. b ∷ l) (sym (take-append-drop n rest)),
      inr (inl (text, take n rest, digits, run_all is_digit_or_underscore rest, ap (λ k. text ++ k ∷ take n rest) (eqb-true b dot is))),
    )

digit_decimal : (b : ℕ) (text : List ℕ) → is_ascii_digit b ≡ true → is_decimal (b ∷ text) ≡ true → IsDecimal (b ∷ text)
unfolding is_decimal after_fraction
digit_decimal b text digit is =
    let word = b ∷ text in
    let p = prefix_len is_digit_or_underscore word in
    let left = drop p word in
    let m = mantissa_at (take p word) left (eqb (slice_index left 0) dot) (front_digits b text digit) refl in
    let exponent = after_fraction left in (
      take p word ++ m.0,
      exponent,
      sym (take-append-drop p word) ∙ ap (λ l. take p word ++ l) m.1 ∙ sym (append_assoc (take p word) m.0 exponent),
      m.2,
      exponent_form exponent is,
    )

dot_decimal : (b : ℕ) (text : List ℕ) → is_ascii_digit b ≡ true → is_decimal (dot ∷ b ∷ text) ≡ true → IsDecimal (dot ∷ b ∷ text)
unfolding is_decimal after_fraction
dot_decimal b text digit is =
    let n = prefix_len is_digit_or_underscore (b ∷ text) in
    let exponent = drop n (b ∷ text) in (
      dot ∷ take n (b ∷ text),
      exponent,
      ap (λ l. dot ∷ l) (sym (take-append-drop n (b ∷ text))),
      inr (inr (take n (b ∷ text), front_digits b text digit, refl)),
      exponent_form exponent is,
    )

decimal_form : (word : List ℕ) → begins_numeral word ≡ true → is_decimal word ≡ true → IsDecimal word
decimal_form [] begins is = absurd (cc)
decimal_form (a ∷ []) begins is =
    or_at (is_ascii_digit a) (eqb a dot && is_ascii_digit 0) begins (λ digit. digit_decimal a [] digit is)
    (λ h. and_at (eqb a dot) (is_ascii_digit 0) h (λ _ wrong. absurd (cc)))
decimal_form (a ∷ b ∷ word) begins is =
    or_at (is_ascii_digit a) (eqb a dot && is_ascii_digit b) begins (λ digit. digit_decimal a (b ∷ word) digit is)
    (λ h. and_at (eqb a dot) (is_ascii_digit b) h
    (λ first digit. let same = eqb-true a dot first in subst (λ k. IsDecimal (k ∷ b ∷ word)) (sym same) (dot_decimal b word digit (ap (λ k. is_decimal (k ∷ b ∷ word)) (sym same) ∙ is))))

based_whole : (word : List ℕ) (p : ℕ → Bool) → slice_index word 0 ≡ 48 → p (slice_index word 1) ≡ true → p 0 ≡ false → word ≡ 48 ∷ slice_index word 1 ∷ drop 2 word
based_whole [] p zeroth letter none = absurd (omega (arith, zeroth))
based_whole (a ∷ []) p zeroth letter none = absurd (cc)
based_whole (a ∷ b ∷ word) p zeroth letter none = ap (λ k. k ∷ b ∷ word) zeroth

hex_form : (word : List ℕ) → slice_index word 0 ≡ 48 → (eqb (slice_index word 1) 120 || eqb (slice_index word 1) 88) ≡ true → is_hex_part (drop 2 word) ≡ true → IsHexadecimal word
unfolding is_hex_part
hex_form word zeroth base part =
    let x = slice_index word 1 in
    and_at (eqb (prefix_len is_hex_or_underscore (drop 2 word)) (length (drop 2 word))) (list_any is_ascii_hexdigit (drop 2 word)) part
    (λ whole some. (
      x,
      drop 2 word,
      based_whole word (λ k. eqb k 120 || eqb k 88) zeroth base refl,
      or_at (eqb x 120) (eqb x 88) base (λ h. inl (eqb-true x 120 h)) (λ h. inr (eqb-true x 88 h)),
      all_of_len is_hex_or_underscore (drop 2 word) (eqb-true _ _ whole),
      some,
    ))

binary_form : (word : List ℕ) → slice_index word 0 ≡ 48 → (eqb (slice_index word 1) 98 || eqb (slice_index word 1) 66) ≡ true → is_binary_part (drop 2 word) ≡ true → IsBinary word
unfolding is_binary_part
binary_form word zeroth base part =
    let x = slice_index word 1 in
    and_at (eqb (prefix_len is_binary_or_underscore (drop 2 word)) (length (drop 2 word))) (list_any is_ascii_digit (drop 2 word)) part
    (λ whole some. (
      x,
      drop 2 word,
      based_whole word (λ k. eqb k 98 || eqb k 66) zeroth base refl,
      or_at (eqb x 98) (eqb x 66) base (λ h. inl (eqb-true x 98 h)) (λ h. inr (eqb-true x 66 h)),
      all_of_len is_binary_or_underscore (drop 2 word) (eqb-true _ _ whole),
      some,
    ))

-- what is read as a numeral is of the form of one
pub numeral_form_is : (word : List ℕ) → begins_numeral word ≡ true → is_numeral word ≡ true → IsNumeral word
unfolding is_numeral
numeral_form_is word begins is =
    let second = slice_index word 1 in
    let hex = eqb (slice_index word 0) 48 && (eqb second 120 || eqb second 88) in
    let binary = eqb (slice_index word 0) 48 && (eqb second 98 || eqb second 66) in
    choose_is hex (is_hex_part (drop 2 word)) (cond binary (is_binary_part (drop 2 word)) (is_decimal word)) is
    (λ h part. and_at (eqb (slice_index word 0) 48) (eqb second 120 || eqb second 88) h (λ zeroth base. inr (inl (hex_form word (eqb-true _ _ zeroth) base part))))
    (λ _ more. choose_is binary (is_binary_part (drop 2 word)) (is_decimal word) more
    (λ h part. and_at (eqb (slice_index word 0) 48) (eqb second 98 || eqb second 66) h (λ zeroth base. inr (inr (binary_form word (eqb-true _ _ zeroth) base part))))
    (λ _ decimal. inl (decimal_form word begins decimal)))

-- the other way: digits
len_of_all : (p : ℕ → Bool) (xs : List ℕ) → list_all p xs ≡ true → prefix_len p xs ≡ length xs
len_of_all p [] all = refl
len_of_all p (x ∷ xs) all =
    and_at (p x) (list_all p xs) all (λ here more. ap (λ t. cond t (1 + prefix_len p xs) 0) here ∙ omega (arith, len_of_all p xs more))

digits_all : (text : List ℕ) → IsDigits text → list_all is_digit_or_underscore text ≡ true
digits_all text is = ap (list_all is_digit_or_underscore) is.2 ∙ both_at _ _ (ap (λ t. t || eqb is.0 95) is.3) is.4

digits_read : (text : List ℕ) → IsDigits text → is_digits text ≡ true
unfolding is_digits
digits_read text is = both_at _ _ (ap (λ l. is_ascii_digit (slice_index l 0)) is.2 ∙ is.3) (eq-eqb _ _ (len_of_all is_digit_or_underscore text (digits_all text is)))

digit_no_mark : (b : ℕ) → is_ascii_digit b ≡ true → is_exponent_sign b ≡ false
digit_no_mark b h = grind arith

letter_read : (letter : ℕ) (digits : List ℕ) → is_exponent_letter letter ≡ true → IsDigits digits → is_exponent_or_none (letter ∷ digits) ≡ true
unfolding is_exponent_or_none exponent_len
letter_read letter digits is_letter is =
    let some : eqb (length (letter ∷ digits)) 0 ≡ false = ne_eqb _ 0 (λ same. omega (arith, same)) in
    let unsigned : is_exponent_sign (slice_index digits 0) ≡ false = ap (λ l. is_exponent_sign (slice_index l 0)) is.2 ∙ digit_no_mark is.0 is.3 in
    let one : exponent_len (letter ∷ digits) ≡ 1 = ap (λ t. cond t (cond (is_exponent_sign (slice_index digits 0)) 2 1) 0) is_letter ∙ ap (λ t. cond t 2 1) unsigned in
    ap (λ t. cond t true (is_exponent_letter letter && is_digits (drop (exponent_len (letter ∷ digits)) (letter ∷ digits)))) some
    ∙ both_at _ _ is_letter (ap (λ n. is_digits (drop n (letter ∷ digits))) one ∙ digits_read digits is)

signed_read : (letter sign : ℕ) (digits : List ℕ) → is_exponent_letter letter ≡ true → is_exponent_sign sign ≡ true → IsDigits digits → is_exponent_or_none (letter ∷ sign ∷ digits) ≡ true
unfolding is_exponent_or_none exponent_len
signed_read letter sign digits is_letter is_sign is =
    let text = letter ∷ sign ∷ digits in
    let some : eqb (length text) 0 ≡ false = ne_eqb _ 0 (λ same. omega (arith, same)) in
    let two : exponent_len text ≡ 2 = ap (λ t. cond t (cond (is_exponent_sign sign) 2 1) 0) is_letter ∙ ap (λ t. cond t 2 1) is_sign in
    ap (λ t. cond t true (is_exponent_letter letter && is_digits (drop (exponent_len text) text))) some
    ∙ both_at _ _ is_letter (ap (λ n. is_digits (drop n text)) two ∙ digits_read digits is)

none_read : is_exponent_or_none [] ≡ true
unfolding is_exponent_or_none
none_read = refl

exponent_read : (text : List ℕ) → IsExponent text → is_exponent_or_none text ≡ true
exponent_read text (inl none) = ap is_exponent_or_none none ∙ none_read
exponent_read text (inr h) = elim h.4 [
  | inl plain ↦ ap is_exponent_or_none plain ∙ letter_read h.0 h.1 h.2 h.3
  | inr signed ↦ ap is_exponent_or_none signed.2 ∙ signed_read h.0 signed.0 h.1 h.2 signed.1 h.3
]

-- no digit and no dot begins an exponent
letter_other : (b : ℕ) → is_exponent_letter b ≡ true → is_digit_or_underscore b ≡ false
letter_other b h = grind arith

letter_no_dot : (b : ℕ) → is_exponent_letter b ≡ true → eqb b dot ≡ false
letter_no_dot b h = grind arith

exponent_first : (p : ℕ → Bool) (text : List ℕ) → p 0 ≡ false → ((b : ℕ) → is_exponent_letter b ≡ true → p b ≡ false) → IsExponent text → p (slice_index text 0) ≡ false
exponent_first p text none letters (inl empty) = ap (λ l. p (slice_index l 0)) empty ∙ none
exponent_first p text none letters (inr h) = elim h.4 [
  | inl plain ↦ ap (λ l. p (slice_index l 0)) plain ∙ letters h.0 h.2
  | inr signed ↦ ap (λ l. p (slice_index l 0)) signed.2 ∙ letters h.0 h.2
]

no_fraction : (text : List ℕ) → IsExponent text → after_fraction text ≡ text
unfolding after_fraction
no_fraction text is = ap (λ t. cond t (drop (prefix_len is_digit_or_underscore (drop 1 text)) (drop 1 text)) text) (exponent_first (λ b. eqb b dot) text refl letter_no_dot is)

after_digits : (rest text : List ℕ) → list_all is_digit_or_underscore rest ≡ true → IsExponent text → after_fraction (dot ∷ (rest ++ text)) ≡ text
unfolding after_fraction
after_digits rest text all is =
    ap (λ n. drop n (rest ++ text)) (run_exact is_digit_or_underscore rest text all (exponent_first is_digit_or_underscore text refl letter_other is)) ∙ drop-append_seam rest text

decimal_at : (front rest : List ℕ) → list_all is_digit_or_underscore front ≡ true → is_digit_or_underscore (slice_index rest 0) ≡ false → is_decimal (front ++ rest) ≡ is_exponent_or_none (after_fraction rest)
unfolding is_decimal
decimal_at front rest all stops =
    ap (λ n. is_exponent_or_none (after_fraction (drop n (front ++ rest)))) (run_exact is_digit_or_underscore front rest all stops)
    ∙ ap (λ l. is_exponent_or_none (after_fraction l)) (drop-append_seam front rest)

mantissa_read : (mantissa exponent : List ℕ) → IsMantissa mantissa → IsExponent exponent → is_decimal (mantissa ++ exponent) ≡ true
mantissa_read mantissa exponent (inl digits) is =
    decimal_at mantissa exponent (digits_all mantissa digits) (exponent_first is_digit_or_underscore exponent refl letter_other is)
    ∙ ap is_exponent_or_none (no_fraction exponent is) ∙ exponent_read exponent is
mantissa_read mantissa exponent (inr (inl h)) is =
    ap (λ l. is_decimal (l ++ exponent)) h.4 ∙ ap is_decimal (append_assoc h.0 (dot ∷ h.1) exponent)
    ∙ decimal_at h.0 (dot ∷ (h.1 ++ exponent)) (digits_all h.0 h.2) refl
    ∙ ap is_exponent_or_none (after_digits h.1 exponent h.3 is) ∙ exponent_read exponent is
mantissa_read mantissa exponent (inr (inr h)) is =
    ap (λ l. is_decimal (l ++ exponent)) h.2
    ∙ decimal_at [] (dot ∷ (h.0 ++ exponent)) refl refl
    ∙ ap is_exponent_or_none (after_digits h.0 exponent (digits_all h.0 h.1) is) ∙ exponent_read exponent is

-- a byte that isn't the letter of a base
abbrev pub is_base : ℕ → Bool
is_base b = (eqb b 120 || eqb b 88) || (eqb b 98 || eqb b 66)

digit_no_base : (b : ℕ) → is_digit_or_underscore b ≡ true → is_base b ≡ false
digit_no_base b h = grind arith

letter_no_base : (b : ℕ) → is_exponent_letter b ≡ true → is_base b ≡ false
letter_no_base b h = grind arith

second_at : (rest behind : List ℕ) → list_all is_digit_or_underscore rest ≡ true → is_base (slice_index behind 0) ≡ false → is_base (slice_index (rest ++ behind) 0) ≡ false
second_at [] behind all next = next
second_at (b ∷ rest) behind all next = and_at (is_digit_or_underscore b) (list_all is_digit_or_underscore rest) all (λ h _. digit_no_base b h)

behind_first : (b : ℕ) (text : List ℕ) → is_base (slice_index (b ∷ text) 1) ≡ is_base (slice_index text 0)
behind_first b [] = refl
behind_first b (c ∷ text) = refl

-- the second byte behind a digit is no letter of a base
second_plain : (mantissa exponent : List ℕ) → IsMantissa mantissa → IsExponent exponent → (is_base (slice_index (mantissa ++ exponent) 1) ≡ false) ⊎ (eqb (slice_index (mantissa ++ exponent) 0) 48 ≡ false)
second_plain mantissa exponent (inl digits) is =
    inl (ap (λ l. is_base (slice_index (l ++ exponent) 1)) digits.2 ∙ behind_first digits.0 (digits.1 ++ exponent) ∙ second_at digits.1 exponent digits.4 (exponent_first is_base exponent refl letter_no_base is))
second_plain mantissa exponent (inr (inl h)) is =
    inl (ap (λ l. is_base (slice_index (l ++ exponent) 1)) (h.4 ∙ ap (λ l. l ++ dot ∷ h.1) h.2.2) ∙ behind_first h.2.0 ((h.2.1 ++ dot ∷ h.1) ++ exponent)
    ∙ ap (λ l. is_base (slice_index l 0)) (append_assoc h.2.1 (dot ∷ h.1) exponent) ∙ second_at h.2.1 (dot ∷ (h.1 ++ exponent)) h.2.4 refl)
second_plain mantissa exponent (inr (inr h)) is = inr (ap (λ l. eqb (slice_index (l ++ exponent) 0) 48) h.2)

neither : (z a b : Bool) (x y d : Bool) → ((a || b) ≡ false) ⊎ (z ≡ false) → cond (z && a) x (cond (z && b) y d) ≡ d
neither false a b x y d h = refl
neither true false false x y d h = refl
neither true true b x y d (inl h) = absurd (cc)
neither true true b x y d (inr h) = absurd (cc)
neither true false true x y d (inl h) = absurd (cc)
neither true false true x y d (inr h) = absurd (cc)

decimal_read : (word : List ℕ) → IsDecimal word → is_numeral word ≡ true
unfolding is_numeral
decimal_read word is =
    let text = is.0 ++ is.1 in
    let second = slice_index text 1 in
    ap is_numeral is.2
    ∙ neither (eqb (slice_index text 0) 48) (eqb second 120 || eqb second 88) (eqb second 98 || eqb second 66) (is_hex_part (drop 2 text)) (is_binary_part (drop 2 text)) (is_decimal text) (second_plain is.0 is.1 is.3 is.4)
    ∙ mantissa_read is.0 is.1 is.3 is.4

hex_read : (letter : ℕ) (digits : List ℕ) → (letter ≡ 120) ⊎ (letter ≡ 88) → list_all is_hex_or_underscore digits ≡ true → list_any is_ascii_hexdigit digits ≡ true → is_numeral (48 ∷ letter ∷ digits) ≡ true
unfolding is_numeral is_hex_part
hex_read letter digits (inl x) all some = ap (λ k. is_numeral (48 ∷ k ∷ digits)) x ∙ both_at _ _ (eq-eqb _ _ (len_of_all is_hex_or_underscore digits all)) some
hex_read letter digits (inr x) all some = ap (λ k. is_numeral (48 ∷ k ∷ digits)) x ∙ both_at _ _ (eq-eqb _ _ (len_of_all is_hex_or_underscore digits all)) some

binary_read : (letter : ℕ) (digits : List ℕ) → (letter ≡ 98) ⊎ (letter ≡ 66) → list_all is_binary_or_underscore digits ≡ true → list_any is_ascii_digit digits ≡ true → is_numeral (48 ∷ letter ∷ digits) ≡ true
unfolding is_numeral is_binary_part
binary_read letter digits (inl b) all some = ap (λ k. is_numeral (48 ∷ k ∷ digits)) b ∙ both_at _ _ (eq-eqb _ _ (len_of_all is_binary_or_underscore digits all)) some
binary_read letter digits (inr b) all some = ap (λ k. is_numeral (48 ∷ k ∷ digits)) b ∙ both_at _ _ (eq-eqb _ _ (len_of_all is_binary_or_underscore digits all)) some

digit_begins : (digit : ℕ) (rest : List ℕ) → is_ascii_digit digit ≡ true → begins_numeral (digit ∷ rest) ≡ true
digit_begins digit rest h = ap (λ t. t || (eqb digit dot && is_ascii_digit (slice_index (digit ∷ rest) 1))) h

decimal_begins : (mantissa exponent : List ℕ) → IsMantissa mantissa → begins_numeral (mantissa ++ exponent) ≡ true
decimal_begins mantissa exponent (inl digits) = ap (λ l. begins_numeral (l ++ exponent)) digits.2 ∙ digit_begins digits.0 (digits.1 ++ exponent) digits.3
decimal_begins mantissa exponent (inr (inl h)) =
    ap (λ l. begins_numeral (l ++ exponent)) (h.4 ∙ ap (λ l. l ++ dot ∷ h.1) h.2.2) ∙ digit_begins h.2.0 ((h.2.1 ++ dot ∷ h.1) ++ exponent) h.2.3
decimal_begins mantissa exponent (inr (inr h)) = ap (λ l. begins_numeral (l ++ exponent)) (h.2 ∙ ap (λ l. dot ∷ l) h.1.2) ∙ h.1.3

-- what is of the form of a numeral is read as one
pub numeral_is_read : (word : List ℕ) → IsNumeral word → (begins_numeral word ≡ true) × (is_numeral word ≡ true)
numeral_is_read word (inl decimal) =
    (ap begins_numeral decimal.2 ∙ decimal_begins decimal.0 decimal.1 decimal.3, decimal_read word decimal)
numeral_is_read word (inr (inl h)) = (ap begins_numeral h.2, ap is_numeral h.2 ∙ hex_read h.0 h.1 h.3 h.4 h.5)
numeral_is_read word (inr (inr h)) = (ap begins_numeral h.2, ap is_numeral h.2 ∙ binary_read h.0 h.1 h.3 h.4 h.5)

-- examples
no_numeral : (word : List ℕ) → is_numeral word ≡ false → IsNumeral word → ⊥
no_numeral word none is = let read = (numeral_is_read word is).1 in cc

no_begin : (word : List ℕ) → begins_numeral word ≡ false → IsNumeral word → ⊥
no_begin word none is = let read = (numeral_is_read word is).0 in cc

-- a fact of each of some words, one by one
abbrev Each : (List ℕ → Type 0) → List (List ℕ) → Type 0
Each P [] = Unit {0}
Each P (word ∷ words) = P word × Each P words

each_all : (P : List ℕ → Type 0) (words : List (List ℕ)) → Each P words → All P words
each_all P [] h k d short = absurd (omega arith)
each_all P (word ∷ words) h zero d short = h.0
each_all P (word ∷ words) h (suc k) d short = each_all P words h.1 k d (omega arith)

pub decimals : All IsNumeral (codes "1_.e5" ∷ codes ".5_E-3" ∷ codes "1._" ∷ codes "007" ∷ [])
unfolding is_numeral is_decimal after_fraction is_exponent_or_none exponent_len is_digits is_hex_part is_binary_part
decimals =
    each_all IsNumeral (codes "1_.e5" ∷ codes ".5_E-3" ∷ codes "1._" ∷ codes "007" ∷ []) (numeral_form_is (codes "1_.e5") refl refl, (numeral_form_is (codes ".5_E-3") refl refl, (numeral_form_is (codes "1._") refl refl, (numeral_form_is (codes "007") refl refl, tt))))

pub hexadecimals : All IsNumeral (codes "0X_f" ∷ codes "0x1e5" ∷ [])
unfolding is_numeral is_decimal after_fraction is_exponent_or_none exponent_len is_digits is_hex_part is_binary_part
hexadecimals =
    each_all IsNumeral (codes "0X_f" ∷ codes "0x1e5" ∷ []) (numeral_form_is (codes "0X_f") refl refl, (numeral_form_is (codes "0x1e5") refl refl, tt))

pub binaries : All IsNumeral (codes "0b_01" ∷ [])
unfolding is_numeral is_decimal after_fraction is_exponent_or_none exponent_len is_digits is_hex_part is_binary_part
binaries =
    each_all IsNumeral (codes "0b_01" ∷ []) (numeral_form_is (codes "0b_01") refl refl, tt)

pub no_numerals : All (λ word. IsNumeral word → ⊥) (codes "1e_5" ∷ codes "1..2" ∷ codes "0x_" ∷ codes "0b2" ∷ codes "1a" ∷ codes "._5" ∷ [])
unfolding is_numeral is_decimal after_fraction is_exponent_or_none exponent_len is_digits is_hex_part is_binary_part
no_numerals =
    each_all (λ word. IsNumeral word → ⊥) (codes "1e_5" ∷ codes "1..2" ∷ codes "0x_" ∷ codes "0b2" ∷ codes "1a" ∷ codes "._5" ∷ [])
    (no_numeral (codes "1e_5") refl, (no_numeral (codes "1..2") refl, (no_numeral (codes "0x_") refl, (no_numeral (codes "0b2") refl, (no_numeral (codes "1a") refl, (no_begin (codes "._5") refl, tt))))))
