-- The number that digits write, and the bytes of a code point.
use Rattle.std.specs.Prelude.{ℕ, ◌+◌, ◌-◌, ◌*◌, ◌/◌, ◌%◌, nat_lt, nat_le, List, [], ◌∷◌, if◌then◌else◌}

-- the number that a digit writes, of which there are sixteen
unfoldable pub digit_number : ℕ → ℕ
digit_number b = if nat_le b 57 then b - 48 else (if nat_le b 70 then b - 55 else b - 87)

-- the number that these digits write in a base, behind those of a number before them
abbrev pub number_behind : ℕ → ℕ → List ℕ → ℕ
number_behind base n [] = n
number_behind base n (d ∷ digits) = number_behind base (base * n + digit_number d) digits

abbrev pub number_in : ℕ → List ℕ → ℕ
number_in base digits = number_behind base 0 digits

-- the bytes of a number by the scheme of UTF-8, which gives surrogates three bytes too
unfoldable pub utf8_scheme : ℕ → List ℕ
utf8_scheme n =
    if nat_lt n 0x80 then n ∷ []
    else (if nat_lt n 0x800 then (0xC0 + n / 0x40) ∷ (0x80 + n % 0x40) ∷ []
    else (if nat_lt n 0x10000
    then (0xE0 + n / 0x1000) ∷ (0x80 + n / 0x40 % 0x40) ∷ (0x80 + n % 0x40) ∷ []
    else (0xF0 + n / 0x40000) ∷ (0x80 + n / 0x1000 % 0x40) ∷ (0x80 + n / 0x40 % 0x40) ∷
    (0x80 + n % 0x40) ∷ []))
