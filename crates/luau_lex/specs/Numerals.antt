-- The forms of numerals, by cases on their bytes, and what looks like a numeral.
use Rattle.std.specs.Prelude.{ℕ, Bool, true, ◌&&◌, ◌||◌, ◌==◌, List, slice_index, ◌≡◌, ◌⊎◌, [], ◌∷◌, ◌++◌}
use Rattle.std.specs.List.{list_any, list_all}
use Rattle.std.specs.Char.{is_ascii_digit, is_ascii_hexdigit}
use Rattle.luau_lex.specs.Bytes.{dot, is_name_byte, is_digit_or_underscore, is_numeral_byte, is_hex_or_underscore, is_binary_or_underscore, is_exponent_letter, is_exponent_sign}

-- a numeral begins with a digit, or with a dot and a digit
abbrev pub begins_numeral : List ℕ → Bool
begins_numeral text =
    is_ascii_digit (slice_index text 0)
    || ((slice_index text 0 == dot) && is_ascii_digit (slice_index text 1))

-- a digit, and then digits and underscores
abbrev pub IsDigits : List ℕ → Type 0
IsDigits bytes =
    (digit : ℕ) × (rest : List ℕ) × (bytes ≡ digit ∷ rest) × (is_ascii_digit digit ≡ true)
    × (list_all is_digit_or_underscore rest ≡ true)

-- nothing, or an exponent: its letter, a sign or none, and digits
abbrev pub IsExponent : List ℕ → Type 0
IsExponent bytes =
    (bytes ≡ []) ⊎ ((letter : ℕ) × (digits : List ℕ) × (is_exponent_letter letter ≡ true)
    × IsDigits digits
    × ((bytes ≡ letter ∷ digits)
    ⊎ ((sign : ℕ) × (is_exponent_sign sign ≡ true) × (bytes ≡ letter ∷ sign ∷ digits))))

-- Digits and perhaps a dot with digits and underscores or none behind it, or a dot and digits.
abbrev pub IsMantissa : List ℕ → Type 0
IsMantissa bytes =
    IsDigits bytes
    ⊎ (((whole : List ℕ) × (rest : List ℕ) × IsDigits whole
    × (list_all is_digit_or_underscore rest ≡ true) × (bytes ≡ whole ++ dot ∷ rest))
    ⊎ ((digits : List ℕ) × IsDigits digits × (bytes ≡ dot ∷ digits)))

-- a mantissa and perhaps an exponent
abbrev pub IsDecimal : List ℕ → Type 0
IsDecimal bytes =
    (mantissa : List ℕ) × (exponent : List ℕ) × (bytes ≡ mantissa ++ exponent) × IsMantissa mantissa
    × IsExponent exponent

-- 0x or 0X, and hexadecimal digits and underscores, at least one of them a digit
abbrev pub IsHexadecimal : List ℕ → Type 0
IsHexadecimal bytes =
    (letter : ℕ) × (digits : List ℕ) × (bytes ≡ 48 ∷ letter ∷ digits)
    × ((letter ≡ 120) ⊎ (letter ≡ 88))
    × (list_all is_hex_or_underscore digits ≡ true) × (list_any is_ascii_hexdigit digits ≡ true)

-- 0b or 0B, and 0, 1 and underscores, at least one of them a digit
abbrev pub IsBinary : List ℕ → Type 0
IsBinary bytes =
    (letter : ℕ) × (digits : List ℕ) × (bytes ≡ 48 ∷ letter ∷ digits)
    × ((letter ≡ 98) ⊎ (letter ≡ 66))
    × (list_all is_binary_or_underscore digits ≡ true) × (list_any is_ascii_digit digits ≡ true)

-- the bytes are a numeral
abbrev pub IsNumeral : List ℕ → Type 0
IsNumeral bytes = IsDecimal bytes ⊎ (IsHexadecimal bytes ⊎ IsBinary bytes)

-- an exponent's letter and perhaps its sign, or nothing
abbrev pub IsExponentMark : List ℕ → Type 0
IsExponentMark mark =
    (mark ≡ []) ⊎ ((letter : ℕ) × (is_exponent_letter letter ≡ true)
    × ((mark ≡ letter ∷ [])
    ⊎ ((sign : ℕ) × (is_exponent_sign sign ≡ true) × (mark ≡ letter ∷ sign ∷ []))))

-- What begins like a numeral and looks like one: digits, dots and underscores, then perhaps an
-- exponent's letter and sign, then letters, digits and underscores.
abbrev pub IsNumeralWord : List ℕ → Type 0
IsNumeralWord bytes =
    (digits mark rest : List ℕ) × (bytes ≡ digits ++ (mark ++ rest)) × (begins_numeral bytes ≡ true)
    × (list_all is_numeral_byte digits ≡ true) × IsExponentMark mark
    × (list_all is_name_byte rest ≡ true)
