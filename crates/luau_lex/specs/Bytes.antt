-- The bytes that the token grammar speaks of, and their classes.
use Rattle.std.specs.Prelude.{ℕ, Bool, ◌||◌, ◌&&◌, not, ◌==◌, nat_le}
use Rattle.std.specs.Char.{is_ascii_digit, is_ascii_alphabetic, is_ascii_alphanumeric, is_ascii_hexdigit}

abbrev pub line_feed : ℕ
line_feed = 10

abbrev pub carriage_return : ℕ
carriage_return = 13

abbrev pub double_quote : ℕ
double_quote = 34

abbrev pub number_sign : ℕ
number_sign = 35

abbrev pub single_quote : ℕ
single_quote = 39

abbrev pub minus : ℕ
minus = 45

abbrev pub dot : ℕ
dot = 46

abbrev pub slash : ℕ
slash = 47

abbrev pub colon : ℕ
colon = 58

abbrev pub equals : ℕ
equals = 61

abbrev pub bracket : ℕ
bracket = 91

abbrev pub backslash : ℕ
backslash = 92

abbrev pub closing_bracket : ℕ
closing_bracket = 93

abbrev pub underscore : ℕ
underscore = 95

abbrev pub backquote : ℕ
backquote = 96

abbrev pub brace : ℕ
brace = 123

abbrev pub closing_brace : ℕ
closing_brace = 125

-- space, tab, line feed, vertical tab, form feed and carriage return
abbrev pub is_blank : ℕ → Bool
is_blank b = (b == 32) || (nat_le 9 b && nat_le b 13)

-- what a name begins with: an ASCII letter or an underscore
abbrev pub is_name_start : ℕ → Bool
is_name_start b = is_ascii_alphabetic b || (b == underscore)

-- what a name goes on with: an ASCII letter, a digit or an underscore
abbrev pub is_name_byte : ℕ → Bool
is_name_byte b = is_ascii_alphanumeric b || (b == underscore)

-- a digit, or the underscore that may stand between digits
abbrev pub is_digit_or_underscore : ℕ → Bool
is_digit_or_underscore b = is_ascii_digit b || (b == underscore)

-- a digit, an underscore or a dot
abbrev pub is_numeral_byte : ℕ → Bool
is_numeral_byte b = is_digit_or_underscore b || (b == dot)

abbrev pub is_hex_or_underscore : ℕ → Bool
is_hex_or_underscore b = is_ascii_hexdigit b || (b == underscore)

-- 0, 1 or an underscore
abbrev pub is_binary_or_underscore : ℕ → Bool
is_binary_or_underscore b = ((b == 48) || (b == 49)) || (b == underscore)

abbrev pub is_no_line_feed : ℕ → Bool
is_no_line_feed b = not (b == line_feed)

-- e or E
abbrev pub is_exponent_letter : ℕ → Bool
is_exponent_letter b = (b == 101) || (b == 69)

-- plus or minus
abbrev pub is_exponent_sign : ℕ → Bool
is_exponent_sign b = (b == 43) || (b == 45)
