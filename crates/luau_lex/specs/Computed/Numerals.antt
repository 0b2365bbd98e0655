-- Numerals, computed: how far the word of one goes, and which words are numerals.
use Rattle.std.specs.Prelude.{ℕ, Bool, true, ◌+◌, ◌&&◌, ◌||◌, ◌==◌, List, length, drop, slice_index, if◌then◌else◌}
use Rattle.std.specs.List.{prefix_len, list_any}
use Rattle.std.specs.Char.{is_ascii_digit, is_ascii_hexdigit}
use Rattle.luau_lex.specs.Bytes.{dot, is_name_byte, is_digit_or_underscore, is_numeral_byte, is_hex_or_underscore, is_binary_or_underscore, is_exponent_letter, is_exponent_sign}

-- how many bytes an exponent's letter, and its sign if there is one, take
unfoldable pub exponent_len : List ℕ → ℕ
exponent_len text =
    if is_exponent_letter (slice_index text 0)
    then (if is_exponent_sign (slice_index text 1) then 2 else 1)
    else 0

-- The word of a numeral: all digits, dots and underscores; then an exponent's letter and sign; then
-- all letters, digits and underscores.
unfoldable pub numeral_len : List ℕ → ℕ
numeral_len text =
    let digits = prefix_len is_numeral_byte text in
    let exponent = exponent_len (drop digits text) in
    digits + exponent + prefix_len is_name_byte (drop (digits + exponent) text)

-- a digit, and then digits and underscores
unfoldable pub is_digits : List ℕ → Bool
is_digits text =
    is_ascii_digit (slice_index text 0) && (prefix_len is_digit_or_underscore text == length text)

-- nothing, or an exponent: its letter, a sign or none, and digits
unfoldable pub is_exponent_or_none : List ℕ → Bool
is_exponent_or_none text =
    if length text == 0 then true
    else (is_exponent_letter (slice_index text 0) && is_digits (drop (exponent_len text) text))

-- what is left of a text after a dot at its front and the digits and underscores behind it
unfoldable pub after_fraction : List ℕ → List ℕ
after_fraction text =
    if slice_index text 0 == dot
    then drop (prefix_len is_digit_or_underscore (drop 1 text)) (drop 1 text)
    else text

-- digits, a fraction and an exponent
unfoldable pub is_decimal : List ℕ → Bool
is_decimal word =
    is_exponent_or_none (after_fraction (drop (prefix_len is_digit_or_underscore word) word))

-- one or more hexadecimal digits and underscores, at least one of them a digit
unfoldable pub is_hex_part : List ℕ → Bool
is_hex_part text =
    (prefix_len is_hex_or_underscore text == length text) && list_any is_ascii_hexdigit text

-- one or more of 0, 1 and underscores, at least one of them a digit
unfoldable pub is_binary_part : List ℕ → Bool
is_binary_part text =
    (prefix_len is_binary_or_underscore text == length text) && list_any is_ascii_digit text

-- the word of a numeral is a numeral
unfoldable pub is_numeral : List ℕ → Bool
is_numeral word =
    let second = slice_index word 1 in
    if (slice_index word 0 == 48) && ((second == 120) || (second == 88))
    then is_hex_part (drop 2 word)
    else (if (slice_index word 0 == 48) && ((second == 98) || (second == 66))
    then is_binary_part (drop 2 word)
    else is_decimal word)
