-- Where tokens and faults stand in a text.
use Rattle.std.specs.Prelude.{ℕ, ◌+◌, ◌-◌, ◌≤◌, ◌&&◌, ◌==◌, List, [], ◌∷◌, take, slice_index, if◌then◌else◌, ◌≡◌, ◌<◌, length, drop}
use Rattle.std.specs.List.{prefix_len}
use Rattle.luau_tree.specs.declared.position.Span.{Span}
use Rattle.luau_lex.specs.declared.token.LexError.{LexError}
use Rattle.luau_lex.specs.declared.token.LexError.TheVariants.{UnfinishedString, UnfinishedComment, BadEscape, BadNumeral, StrayByte, DoubleBrace, NoMemory}
use Rattle.luau_lex.specs.Bytes.{is_no_line_feed}
use Rattle.luau_lex.specs.Token.{Tok}

-- the length of a first line that begins with #!, which is read as a comment
unfoldable pub first_line_len : List ℕ → ℕ
first_line_len text =
    if (slice_index text 0 == 35) && (slice_index text 1 == 33) then prefix_len is_no_line_feed text
    else 0

-- The tokens stand in order in the text whose rest from this offset on is given: each has a byte at
-- least, begins where the one before it ends or behind that, and has the bytes of the text at its
-- place.
abbrev pub StandInOrder : ℕ → List ℕ → List Tok → Type 0
StandInOrder at text [] = Unit {0}
StandInOrder at text (t ∷ ts) =
    (at ≤ t.span.start) × (t.span.start < t.span.end) × (t.span.end ≤ at + length text)
    × (t.bytes ≡ take (t.span.end - t.span.start) (drop (t.span.start - at) text))
    × StandInOrder t.span.end (drop (t.span.end - at) text) ts

-- the span has a byte at least, and ends within a text of this length
abbrev pub IsWithinText : ℕ → Span → Type 0
IsWithinText len span = (span.start < span.end) × (span.end ≤ len)

-- the offset of a fault
abbrev pub fault_offset : LexError → ℕ
fault_offset (UnfinishedString at) = at
fault_offset (UnfinishedComment at) = at
fault_offset (BadEscape at) = at
fault_offset (BadNumeral at) = at
fault_offset (StrayByte at) = at
fault_offset (DoubleBrace at) = at
fault_offset NoMemory = 0
