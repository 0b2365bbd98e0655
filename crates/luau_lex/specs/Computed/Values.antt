-- The bytes that a string token stands for, computed.
use Rattle.std.specs.Prelude.{ℕ, ◌+◌, ◌-◌, ◌*◌, List, length, take, drop}
use Rattle.luau_lex.specs.declared.token.Kind.{Kind}
use Rattle.luau_lex.specs.declared.token.Kind.TheVariants.{Name, Word, Numeral, Quoted, Long, Whole, Begin, Mid, End, Sign}
use Rattle.luau_lex.specs.Computed.Brackets.{equals_len}
use Rattle.luau_lex.specs.Computed.Strings.{value_of_inside}
use Rattle.luau_lex.specs.LineEnds.{without_first_line_end, with_line_feeds}

-- what stands between marks of this length at both ends
unfoldable pub between_marks : ℕ → List ℕ → List ℕ
between_marks mark bytes = take (length bytes - 2 * mark) (drop mark bytes)

-- the bytes of a string in long brackets
unfoldable pub long_value : List ℕ → List ℕ
long_value bytes =
    with_line_feeds (without_first_line_end (between_marks (equals_len (drop 1 bytes) + 2) bytes))

-- the bytes of a string between marks of one byte
unfoldable pub marked_value : List ℕ → List ℕ
marked_value bytes = value_of_inside (between_marks 1 bytes)

-- the bytes that a string, or a part of an interpolated string, stands for
abbrev pub string_value : Kind → List ℕ → List ℕ
string_value Long bytes = long_value bytes
string_value Quoted bytes = marked_value bytes
string_value Whole bytes = marked_value bytes
string_value Begin bytes = marked_value bytes
string_value Mid bytes = marked_value bytes
string_value End bytes = marked_value bytes
string_value Name bytes = marked_value bytes
string_value Word bytes = marked_value bytes
string_value Numeral bytes = marked_value bytes
string_value Sign bytes = marked_value bytes
