-- How the inside of a string is spelled: its bytes and escapes by cases, and what each stands for.
use Rattle.std.specs.Prelude.{◌≡◌, ◌≢◌, ℕ, ◌<◌, ◌≤◌, Bool, ◌&&◌, ◌==◌, true, false, List, [], ◌∷◌, ◌++◌, length, slice_index, flat_map, if◌then◌else◌, Option, Some, None, unwrap_or, is_some}
use Rattle.std.specs.List.{list_all}
use Rattle.std.specs.Char.{is_ascii_digit, is_ascii_hexdigit}
use Rattle.luau_lex.specs.Bytes.{line_feed, carriage_return, backslash, backquote, brace, closing_brace, is_blank}
use Rattle.luau_lex.specs.Numbers.{number_in, utf8_scheme}

abbrev pub letter_u : ℕ
letter_u = 117

abbrev pub letter_x : ℕ
letter_x = 120

abbrev pub letter_z : ℕ
letter_z = 122

-- One byte or one escape: a plain byte; \z and the blanks that it skips; \x and two hexadecimal
-- digits; a backslash and decimal digits; \u and hexadecimal digits in braces; a backslash before a
-- carriage return and a line feed; and a backslash before any other byte. Or a malformed escape: a
-- backslash at the end of the text, \x or \u before anything else, or digits of a number that is no
-- byte.
pub data Spelling : Type 0 where
  Plain : (b : ℕ) → Spelling
  Skip : (blanks : List ℕ) → Spelling
  Hex : (a b : ℕ) → Spelling
  Decimal : (digits : List ℕ) → Spelling
  CodePoint : (digits : List ℕ) → Spelling
  LineEnd : Spelling
  Escaped : (b : ℕ) → Spelling
  CutShort : Spelling
  BadHex : Spelling
  BadCodePoint : Spelling
  BadDecimal : (digits : List ℕ) → Spelling

-- the bytes in which it is written
abbrev pub written : Spelling → List ℕ
written (Plain b) = b ∷ []
written (Skip blanks) = backslash ∷ letter_z ∷ blanks
written (Hex a b) = backslash ∷ letter_x ∷ a ∷ b ∷ []
written (Decimal digits) = backslash ∷ digits
written (CodePoint digits) = backslash ∷ letter_u ∷ brace ∷ (digits ++ closing_brace ∷ [])
written LineEnd = backslash ∷ carriage_return ∷ line_feed ∷ []
written (Escaped b) = backslash ∷ b ∷ []
written CutShort = backslash ∷ []
written BadHex = backslash ∷ letter_x ∷ []
written BadCodePoint = backslash ∷ letter_u ∷ []
written (BadDecimal digits) = backslash ∷ digits

-- the bytes of escapes by letters, each letter before its byte: \a \b \f \n \r \t \v
abbrev pub letters : List (ℕ × ℕ)
letters = (97, 7) ∷ (98, 8) ∷ (102, 12) ∷ (110, 10) ∷ (114, 13) ∷ (116, 9) ∷ (118, 11) ∷ []

-- what a table has for a byte, or the byte itself
abbrev pub listed_or_itself : List (ℕ × ℕ) → ℕ → ℕ
listed_or_itself [] b = b
listed_or_itself (entry ∷ table) b = if b == entry.0 then entry.1 else listed_or_itself table b

-- the bytes for which it stands, where it isn't malformed
abbrev pub stands_for : Spelling → Option (List ℕ)
stands_for (Plain b) = Some (b ∷ [])
stands_for (Skip blanks) = Some []
stands_for (Hex a b) = Some (number_in 16 (a ∷ b ∷ []) ∷ [])
stands_for (Decimal digits) = Some (number_in 10 digits ∷ [])
stands_for (CodePoint digits) = Some (utf8_scheme (number_in 16 digits))
stands_for LineEnd = Some (line_feed ∷ [])
stands_for (Escaped b) = Some (listed_or_itself letters b ∷ [])
stands_for CutShort = None
stands_for BadHex = None
stands_for BadCodePoint = None
stands_for (BadDecimal digits) = None

-- one to three decimal digits, and no fewer than stand there before these bytes
abbrev pub AreDecimalDigits : List ℕ → List ℕ → Type 0
AreDecimalDigits digits behind =
    (list_all is_ascii_digit digits ≡ true) × (0 < length digits) × (length digits ≤ 3)
    × (length digits < 3 → is_ascii_digit (slice_index behind 0) ≡ false)

-- one or more hexadecimal digits
abbrev pub AreHexDigits : List ℕ → Type 0
AreHexDigits digits = (list_all is_ascii_hexdigit digits ≡ true) × (0 < length digits)

-- In a string of this mark and before these bytes, it is spelled so. A plain byte is none that ends
-- the inside, and no backslash.
abbrev pub IsSpelling : ℕ → Spelling → List ℕ → Type 0
IsSpelling mark (Plain b) behind =
    (b ≢ backslash) × (b ≢ mark) × (b ≢ line_feed) × (b ≢ carriage_return)
    × (mark ≡ backquote → b ≢ brace)
IsSpelling mark (Skip blanks) behind =
    (list_all is_blank blanks ≡ true) × (is_blank (slice_index behind 0) ≡ false)
IsSpelling mark (Hex a b) behind = (is_ascii_hexdigit a ≡ true) × (is_ascii_hexdigit b ≡ true)
IsSpelling mark (Decimal digits) behind =
    AreDecimalDigits digits behind × (number_in 10 digits ≤ 255)
IsSpelling mark (CodePoint digits) behind = AreHexDigits digits × (number_in 16 digits ≤ 0x10FFFF)
IsSpelling mark LineEnd behind = Unit {0}
IsSpelling mark (Escaped b) behind =
    (is_ascii_digit b ≡ false) × (b ≢ letter_u) × (b ≢ letter_x) × (b ≢ letter_z)
    × (b ≡ carriage_return → slice_index behind 0 ≢ line_feed)
IsSpelling mark CutShort behind = behind ≡ []
IsSpelling mark BadHex behind =
    is_ascii_hexdigit (slice_index behind 0) && is_ascii_hexdigit (slice_index behind 1) ≡ false
IsSpelling mark BadCodePoint behind =
    (digits more : List ℕ) → behind ≡ brace ∷ (digits ++ closing_brace ∷ more) →
    AreHexDigits digits → 0x10FFFF < number_in 16 digits
IsSpelling mark (BadDecimal digits) behind =
    AreDecimalDigits digits behind × (255 < number_in 10 digits)

-- Each is spelled so in a string of this mark, one directly behind the other, before these bytes.
abbrev pub AreSpellings : ℕ → List Spelling → List ℕ → Type 0
AreSpellings mark [] behind = Unit {0}
AreSpellings mark (s ∷ inside) behind =
    IsSpelling mark s (flat_map written inside ++ behind) × AreSpellings mark inside behind

-- none is malformed
abbrev pub are_well_formed : List Spelling → Bool
are_well_formed inside = list_all (λ s. is_some (stands_for s)) inside

-- the bytes for which they stand, one behind the other
abbrev pub stand_for : List Spelling → List ℕ
stand_for inside = flat_map (λ s. unwrap_or (stands_for s) []) inside
