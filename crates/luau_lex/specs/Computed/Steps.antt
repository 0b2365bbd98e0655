-- What the code keeps on its way through a text: the state of its reader, its classes of bytes, and
-- its form of an element of a string.
use Rattle.std.specs.Prelude.{ℕ, Bool, ◌+◌, ◌≤◌, ◌==◌, List, [], ◌∷◌, ◌++◌, length, map, Option, Some, None, Result, Ok, Err}
use Rattle.std.specs.Char.{is_ascii_digit, is_ascii_hexdigit}
use Rattle.luau_tree.specs.declared.position.TheConstants.{MAX_TEXT}
use Rattle.luau_lex.specs.declared.bytes.Class.{Class}
use Rattle.luau_lex.specs.declared.bytes.Class.TheVariants.{Blank, NameByte, DigitOrUnderscore, NumeralByte, HexOrUnderscore, BinaryOrUnderscore, HexDigit, DecimalDigit, EqualsSign, NoLineFeed}
use Rattle.luau_lex.specs.declared.elements.Stands.{Stands}
use Rattle.luau_lex.specs.declared.elements.Stands.TheVariants.{Nothing, Byte, Code, Malformed}
use Rattle.luau_lex.specs.declared.elements.Parsed.{Parsed}
use Rattle.luau_lex.specs.declared.token.LexError.{LexError}
use Rattle.luau_lex.specs.declared.reader.Reader.{Reader}
use Rattle.luau_lex.specs.declared.piece.Piece.{Piece}
use Rattle.luau_lex.specs.Bytes.{equals, is_blank, is_name_byte, is_digit_or_underscore, is_numeral_byte, is_hex_or_underscore, is_binary_or_underscore, is_no_line_feed}
use Rattle.luau_lex.specs.Computed.Reads.{Reads, HasTokens}
use Rattle.luau_lex.specs.Computed.Strings.{Element}
use Rattle.luau_lex.specs.Numbers.{utf8_scheme}
use Rattle.luau_lex.specs.Token.{Tok, seen_token}

-- which bytes are of a class
abbrev pub has : Class → ℕ → Bool
has Blank = is_blank
has NameByte = is_name_byte
has DigitOrUnderscore = is_digit_or_underscore
has NumeralByte = is_numeral_byte
has HexOrUnderscore = is_hex_or_underscore
has BinaryOrUnderscore = is_binary_or_underscore
has HexDigit = is_ascii_hexdigit
has DecimalDigit = is_ascii_digit
has EqualsSign = λ b. b == equals
has NoLineFeed = is_no_line_feed

-- the program's form of what an element stands for
abbrev pub stands_value : Stands → Option (List ℕ)
stands_value Nothing = Some []
stands_value (Byte b) = Some (b ∷ [])
stands_value (Code n) = Some (utf8_scheme n)
stands_value Malformed = None

-- the program's form of an element
abbrev pub seen : Parsed → Element
seen parsed = record { len = parsed.len; value = stands_value parsed.stands }

-- the numbers that the program writes by the scheme of UTF-8
abbrev pub IsWritable : Stands → Type 0
IsWritable Nothing = Unit {0}
IsWritable (Byte b) = Unit {0}
IsWritable (Code n) = n ≤ 0x10FFFF
IsWritable Malformed = Unit {0}

-- these tokens, and then what comes behind them: tokens or a fault
abbrev pub with_tokens : List Tok → Result (List Tok) LexError → Result (List Tok) LexError
with_tokens ts (Ok us) = Ok (ts ++ us)
with_tokens ts (Err e) = Err e

-- what is left lies within the longest text
abbrev pub IsSmall : Reader → Type 0
IsSmall r = r.at + length r.rest.now ≤ MAX_TEXT

-- Whatever the text has from where the reader is on, it has behind the tokens that were found.
abbrev pub HasRead : List ℕ → Reader → Type 0
HasRead text r =
    (ps : List Piece) (rest : Result (List Tok) LexError) →
    Reads r.opens.items r.at r.rest.now ps rest →
    HasTokens text (with_tokens (map seen_token r.tokens.items) rest)
