-- Strings, computed: what stands inside of one, element by element, how far its inside goes, and
-- what it stands for.
use Rattle.std.specs.Prelude.{ℕ, Bool, zero, suc, ◌+◌, ◌-◌, ◌*◌, min, ◌&&◌, ◌||◌, ◌==◌, nat_lt, nat_le, List, [], ◌∷◌, ◌++◌, length, take, drop, slice_index, if◌then◌else◌, Option, Some, None, option_map, unwrap_or, is_some}
use Rattle.std.specs.List.{prefix_len}
use Rattle.std.specs.Char.{is_ascii_digit, is_ascii_hexdigit}
use Rattle.luau_lex.specs.Bytes.{line_feed, carriage_return, backslash, backquote, brace, closing_brace, is_blank}
use Rattle.luau_lex.specs.Numbers.{digit_number, number_in, utf8_scheme}

-- One byte or one escape: how many bytes it takes in the text, and the bytes that it stands for. An
-- escape that is malformed stands for none.
pub record Element : Type 0 where
  pub len : ℕ
  pub value : Option (List ℕ)

-- \x and two hexadecimal digits; the text is what follows the x
unfoldable pub byte_escape : List ℕ → Element
byte_escape text =
    let a = slice_index text 0 in
    let b = slice_index text 1 in
    if is_ascii_hexdigit a && is_ascii_hexdigit b
    then record { len = 4; value = Some ((16 * digit_number a + digit_number b) ∷ []) }
    else record { len = 2; value = None }

-- a backslash and one to three decimal digits, of a number that is at most 255; the text begins
-- with them
unfoldable pub decimal_escape : List ℕ → Element
decimal_escape text =
    let digits = min 3 (prefix_len is_ascii_digit text) in
    let number = number_in 10 (take digits text) in
    record { len = 1 + digits; value = if nat_le number 255 then Some (number ∷ []) else None }

-- \u{H}, where H are hexadecimal digits of a number that is at most 10FFFF; the text is what
-- follows the u
unfoldable pub code_escape : List ℕ → Element
code_escape text =
    let inside = drop 1 text in
    let digits = prefix_len is_ascii_hexdigit inside in
    let number = number_in 16 (take digits inside) in
    if (slice_index text 0 == brace)
    && (nat_lt 0 digits && ((slice_index inside digits == closing_brace) && nat_le number 0x10FFFF))
    then record { len = 4 + digits; value = Some (utf8_scheme number) }
    else record { len = 2; value = None }

-- what a backslash and this byte stand for, where the byte is none of x, u, z and the digits
unfoldable pub letter_escape : ℕ → ℕ
letter_escape b =
    if b == 97 then 7 else (if b == 98 then 8 else (if b == 102 then 12 else (if b == 110 then 10
    else (if b == 114 then 13 else (if b == 116 then 9 else (if b == 118 then 11 else b))))))

-- an escape; the text is what follows the backslash
unfoldable pub escape : List ℕ → Element
escape text =
    let b = slice_index text 0 in
    if length text == 0 then record { len = 1; value = None }
    else (if b == 122 then record { len = 2 + prefix_len is_blank (drop 1 text); value = Some [] }
    else (if b == 120 then byte_escape (drop 1 text)
    else (if b == 117 then code_escape (drop 1 text)
    else (if is_ascii_digit b then decimal_escape text
    else (if (b == carriage_return) && (slice_index text 1 == line_feed)
    then record { len = 3; value = Some (line_feed ∷ []) }
    else record { len = 2; value = Some (letter_escape b ∷ []) })))))

-- what stands at the front of a text inside of a string
unfoldable pub element : List ℕ → Element
element text =
    let b = slice_index text 0 in
    if b == backslash then escape (drop 1 text) else record { len = 1; value = Some (b ∷ []) }

-- The inside of a string ends before its mark, before a line feed or carriage return that no escape
-- takes up, and in an interpolated string before a brace.
unfoldable pub ends_inside : ℕ → ℕ → Bool
ends_inside mark b =
    (b == mark) || ((b == line_feed)
    || ((b == carriage_return) || ((mark == backquote) && (b == brace))))

-- How many bytes the inside of a string takes, in the text that follows its mark. The number says
-- how many bytes at the front belong to an element that has begun.
abbrev pub inside_from : ℕ → ℕ → List ℕ → ℕ
inside_from mark begun [] = 0
inside_from mark (suc begun) (b ∷ text) = suc (inside_from mark begun text)
inside_from mark zero (b ∷ text) =
    if ends_inside mark b then 0 else suc (inside_from mark ((element (b ∷ text)).len - 1) text)

abbrev pub inside_len : ℕ → List ℕ → ℕ
inside_len mark text = inside_from mark 0 text

-- where the first malformed escape stands inside of a string
abbrev pub malformed_from : ℕ → List ℕ → Option ℕ
malformed_from begun [] = None
malformed_from (suc begun) (b ∷ inside) = option_map (λ n. suc n) (malformed_from begun inside)
malformed_from zero (b ∷ inside) =
    if is_some (element (b ∷ inside)).value
    then option_map (λ n. suc n) (malformed_from ((element (b ∷ inside)).len - 1) inside)
    else Some 0

abbrev pub malformed_at : List ℕ → Option ℕ
malformed_at inside = malformed_from 0 inside

-- the bytes that the inside of a string stands for, element by element
abbrev pub value_from : ℕ → List ℕ → List ℕ
value_from begun [] = []
value_from (suc begun) (b ∷ inside) = value_from begun inside
value_from zero (b ∷ inside) =
    unwrap_or (element (b ∷ inside)).value [] ++ value_from ((element (b ∷ inside)).len - 1) inside

abbrev pub value_of_inside : List ℕ → List ℕ
value_of_inside inside = value_from 0 inside
