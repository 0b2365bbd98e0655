-- The line ends of a string in long brackets.
use Rattle.std.specs.Prelude.{ℕ, Bool, ◌&&◌, ◌==◌, List, [], ◌∷◌, drop, slice_index, if◌then◌else◌}
use Rattle.luau_lex.specs.Bytes.{line_feed, carriage_return}

-- a carriage return stands directly before a line feed at the front
abbrev pub is_line_end_pair : List ℕ → Bool
is_line_end_pair text = (slice_index text 0 == carriage_return) && (slice_index text 1 == line_feed)

-- a line feed at the front, or a carriage return and line feed, is dropped
unfoldable pub without_first_line_end : List ℕ → List ℕ
without_first_line_end text =
    if slice_index text 0 == line_feed then drop 1 text
    else (if is_line_end_pair text then drop 2 text else text)

-- each carriage return before a line feed is dropped
abbrev pub with_line_feeds : List ℕ → List ℕ
with_line_feeds [] = []
with_line_feeds (b ∷ text) =
    if (b == carriage_return) && (slice_index text 0 == line_feed) then with_line_feeds text
    else b ∷ with_line_feeds text
