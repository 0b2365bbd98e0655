-- The piece at a place of a text, computed: blanks or a comment, a token, or the fault of what
-- begins there.
use Rattle.std.specs.Prelude.{ℕ, List, [], ◌∷◌, if◌then◌else◌, ◌+◌, ◌-◌, ◌&&◌, ◌||◌, ◌==◌, ◌++◌, length, take, drop, slice_index, slice_get, Option, Some, None}
use Rattle.luau_lex.specs.declared.token.Kind.{Kind}
use Rattle.luau_lex.specs.declared.token.Kind.TheVariants.{Name, Word, Numeral, Quoted, Long, Whole, Begin, Mid, End, Sign}
use Rattle.std.specs.List.{prefix_len}
use Rattle.luau_lex.specs.declared.token.LexError.TheVariants.{UnfinishedString, UnfinishedComment, BadEscape, BadNumeral, StrayByte, DoubleBrace}
use Rattle.luau_lex.specs.declared.piece.Piece.{Piece}
use Rattle.luau_lex.specs.declared.piece.Piece.TheVariants.{Gap, Found, Faulty}
use Rattle.luau_lex.specs.declared.piece.Open.{Open}
use Rattle.luau_lex.specs.declared.piece.Open.TheVariants.{Brace, Part}
use Rattle.luau_lex.specs.Bytes.{double_quote, single_quote, minus, backquote, brace, closing_brace, is_blank, is_name_start, is_name_byte, is_no_line_feed}
use Rattle.luau_lex.specs.Computed.Brackets.{level, closing_place}
use Rattle.luau_lex.specs.Computed.Numerals.{numeral_len, is_numeral}
use Rattle.luau_lex.specs.Computed.Signs.{sign_len}
use Rattle.luau_lex.specs.Computed.Strings.{inside_len, malformed_at}
use Rattle.luau_lex.specs.Names.{is_listed, reserved_words}
use Rattle.luau_lex.specs.Numerals.{begins_numeral}

-- the kind of a name with these bytes
unfoldable pub name_kind : List ℕ → Kind
name_kind bytes = if is_listed bytes reserved_words then Word else Name

-- all name bytes that follow
unfoldable pub name_piece : List ℕ → Piece
name_piece text = let n = prefix_len is_name_byte text in Found (name_kind (take n text)) n

-- the word of a numeral, which must be a numeral
unfoldable pub numeral_piece : ℕ → List ℕ → Piece
numeral_piece at text =
    let n = numeral_len text in if is_numeral (take n text) then Found Numeral n
    else Faulty (BadNumeral at)

-- the piece, if no escape inside of the string at this place is malformed
abbrev pub unless_malformed : ℕ → Option ℕ → Piece → Piece
unless_malformed at None piece = piece
unless_malformed at (Some n) piece = Faulty (BadEscape (at + 1 + n))

-- A string between two marks, each the first byte of the text. It is unfinished where its inside
-- ends at anything but the mark.
unfoldable pub quoted_piece : ℕ → List ℕ → Piece
quoted_piece at text =
    let mark = slice_index text 0 in
    let behind = drop 1 text in
    let n = inside_len mark behind in
    if slice_index behind n == mark
    then unless_malformed at (malformed_at (take n behind)) (Found Quoted (n + 2))
    else Faulty (UnfinishedString at)

-- A part of an interpolated string, after the backquote or the closing brace at the front. It is of
-- one kind where a backquote ends it and of the other where a brace does. Two braces are a fault.
-- Where neither ends it, the string that began at the start is unfinished.
unfoldable pub part_piece : Kind → Kind → ℕ → ℕ → List ℕ → Piece
part_piece last further start at text =
    let behind = drop 1 text in
    let n = inside_len backquote behind in
    let bad = malformed_at (take n behind) in
    if slice_index behind n == backquote then unless_malformed at bad (Found last (n + 2))
    else (if slice_index behind n == brace
    then unless_malformed at bad (if slice_index behind (n + 1) == brace
    then Faulty (DoubleBrace (at + 1 + n)) else Found further (n + 2))
    else Faulty (UnfinishedString start))

-- the long bracket of this level that begins with so many bytes up to its second bracket is closed
-- there
abbrev pub long_len : ℕ → ℕ → ℕ → ℕ
long_len signs opening place = opening + place + signs + 2

-- a string in long brackets of this level
unfoldable pub long_of : ℕ → Option ℕ → ℕ → Piece
long_of at None signs = Faulty (UnfinishedString at)
long_of at (Some place) signs = Found Long (long_len signs (signs + 2) place)

unfoldable pub long_piece : ℕ → ℕ → List ℕ → Piece
long_piece signs at text = long_of at (closing_place signs (drop (signs + 2) text)) signs

-- a comment in long brackets of this level, after its two signs
unfoldable pub long_comment_of : ℕ → Option ℕ → ℕ → Piece
long_comment_of at None signs = Faulty (UnfinishedComment at)
long_comment_of at (Some place) signs = Gap (long_len signs (signs + 4) place)

-- a comment goes to the end of its line, or where a long bracket opens at once, to where that
-- closes
unfoldable pub comment_of : Option ℕ → ℕ → List ℕ → Piece
comment_of None at text = Gap (2 + prefix_len is_no_line_feed (drop 2 text))
comment_of (Some signs) at text =
    long_comment_of at (closing_place signs (drop (signs + 4) text)) signs

unfoldable pub comment_piece : ℕ → List ℕ → Piece
comment_piece at text = comment_of (level (drop 2 text)) at text

-- the longest sign
unfoldable pub sign_piece : ℕ → List ℕ → Piece
sign_piece at text = let n = sign_len text in if n == 0 then Faulty (StrayByte at) else Found Sign n

-- a string in long brackets where they open, else a sign
unfoldable pub bracket_or_sign : Option ℕ → ℕ → List ℕ → Piece
bracket_or_sign None at text = sign_piece at text
bracket_or_sign (Some signs) at text = long_piece signs at text

-- where the interpolated string begins whose brace is the innermost open one
abbrev pub part_open : Option Open → Option ℕ
part_open None = None
part_open (Some Brace) = None
part_open (Some (Part start)) = Some start

-- the innermost open brace, of those that are open from the outermost to the innermost
abbrev pub innermost : List Open → Option Open
innermost opens = slice_get opens (length opens - 1)

-- a closing brace goes on with the interpolated string whose brace is the innermost open one, or is
-- a sign
unfoldable pub closing_piece : Option ℕ → ℕ → List ℕ → Piece
closing_piece None at text = sign_piece at text
closing_piece (Some start) at text = part_piece End Mid start at text

-- what begins with none of a blank, a name, a numeral and a quote
unfoldable pub other_piece : Option Open → ℕ → List ℕ → Piece
other_piece open_brace at text =
    let b = slice_index text 0 in
    if b == backquote then part_piece Whole Begin at at text
    else (if b == closing_brace then closing_piece (part_open open_brace) at text
    else (if (b == minus) && (slice_index text 1 == minus) then comment_piece at text
    else bracket_or_sign (level text) at text))

-- the piece at the front of a text that isn't empty, at this offset and within this innermost open
-- brace
unfoldable pub piece : Option Open → ℕ → List ℕ → Piece
piece open_brace at text =
    let b = slice_index text 0 in
    if is_blank b then Gap (prefix_len is_blank text)
    else (if is_name_start b then name_piece text
    else (if begins_numeral text then numeral_piece at text
    else (if (b == double_quote) || (b == single_quote) then quoted_piece at text
    else other_piece open_brace at text)))

-- The braces that are open behind a token at this offset whose first byte this is.
unfoldable pub opens_behind : List Open → ℕ → Kind → ℕ → List Open
opens_behind opens at Begin b = opens ++ Part at ∷ []
opens_behind opens at End b = take (length opens - 1) opens
opens_behind opens at Sign b =
    if b == brace then opens ++ Brace ∷ []
    else (if b == closing_brace then take (length opens - 1) opens else opens)
opens_behind opens at Name b = opens
opens_behind opens at Word b = opens
opens_behind opens at Numeral b = opens
opens_behind opens at Quoted b = opens
opens_behind opens at Long b = opens
opens_behind opens at Whole b = opens
opens_behind opens at Mid b = opens
