-- The first fault of a text, by what stands at its place.
use Rattle.std.specs.Prelude.{◌≡◌, ◌≢◌, ℕ, ◌+◌, ◌<◌, ◌≤◌, true, false, ◌⊎◌, List, [], ◌∷◌, ◌++◌, length, take, slice_index, flat_map, None, Some}
use Rattle.luau_lex.specs.declared.token.LexError.{LexError}
use Rattle.luau_lex.specs.declared.token.LexError.TheVariants.{UnfinishedString, UnfinishedComment, BadEscape, BadNumeral, StrayByte, DoubleBrace, NoMemory}
use Rattle.luau_lex.specs.declared.piece.Open.{Open}
use Rattle.luau_lex.specs.Braces.{string_open}
use Rattle.luau_lex.specs.Bytes.{line_feed, carriage_return, double_quote, single_quote, minus, bracket, closing_bracket, backquote, brace, closing_brace, is_blank, is_name_start}
use Rattle.luau_lex.specs.Forms.{bracket_of}
use Rattle.luau_lex.specs.LongestTokens.{NoLongerWord}
use Rattle.luau_lex.specs.Numerals.{begins_numeral, IsNumeral, IsNumeralWord}
use Rattle.luau_lex.specs.Signs.{is_sign}
use Rattle.luau_lex.specs.Spellings.{Spelling, written, stands_for, AreSpellings, are_well_formed}

-- neither blanks nor a name, a numeral, a string or a sign begins at the front
pub record BeginsNothing (text : List ℕ) : Type 0 where
  pub some : 0 < length text
  pub no_blank : is_blank (slice_index text 0) ≡ false
  pub no_name : is_name_start (slice_index text 0) ≡ false
  pub no_numeral : begins_numeral text ≡ false
  pub no_double_quote : slice_index text 0 ≢ double_quote
  pub no_single_quote : slice_index text 0 ≢ single_quote
  pub no_backquote : slice_index text 0 ≢ backquote
  pub no_sign : (m : ℕ) → 0 < m → m ≤ length text → is_sign (take m text) ≡ false

-- no bracket of this level closes in the text
abbrev pub NeverCloses : ℕ → List ℕ → Type 0
NeverCloses signs text =
    (before behind : List ℕ) → text ≢ before ++ (bracket_of closing_bracket signs ++ behind)

-- A string of this mark, or a part of one, begins with this byte at this offset, within these open
-- braces. The whole string begins at the start.
abbrev pub BeginsString : List Open → ℕ → ℕ → ℕ → ℕ → Type 0
BeginsString opens at mark first start =
    ((first ≡ mark) × (start ≡ at)
    × ((mark ≡ double_quote) ⊎ ((mark ≡ single_quote) ⊎ (mark ≡ backquote))))
    ⊎ ((first ≡ closing_brace) × (mark ≡ backquote) × (string_open opens ≡ Some start))

-- such a string, what its inside is spelled as, and what is left of the text behind that
abbrev pub HasInside : List Open → ℕ → List ℕ → ℕ → ℕ → List Spelling → List ℕ → Type 0
HasInside opens at text mark start inside behind =
    (first : ℕ) × BeginsString opens at mark first start
    × (text ≡ first ∷ (flat_map written inside ++ behind)) × AreSpellings mark inside behind

-- the byte ends a string, or a part of one
abbrev pub EndsString : ℕ → ℕ → Type 0
EndsString mark last = (last ≡ mark) ⊎ ((mark ≡ backquote) × (last ≡ brace))

-- the text ends, or a line does
abbrev pub BreaksOff : List ℕ → Type 0
BreaksOff behind =
    (behind ≡ []) ⊎ ((slice_index behind 0 ≡ line_feed) ⊎ (slice_index behind 0 ≡ carriage_return))

-- The fault stands at the front of what is left of a text, from this offset on and within these
-- open braces.
abbrev pub IsFault : List Open → ℕ → List ℕ → LexError → Type 0
IsFault opens at text (StrayByte place) = (place ≡ at) × BeginsNothing text
IsFault opens at text (BadNumeral place) =
    (place ≡ at) × (n : ℕ) × (n ≤ length text) × IsNumeralWord (take n text) × NoLongerWord text n
    × (IsNumeral (take n text) → ⊥)
IsFault opens at text (UnfinishedComment place) =
    (place ≡ at) × (signs : ℕ) × (behind : List ℕ)
    × (text ≡ minus ∷ minus ∷ (bracket_of bracket signs ++ behind)) × NeverCloses signs behind
IsFault opens at text (UnfinishedString place) =
    ((place ≡ at) × (signs : ℕ) × (behind : List ℕ) × (text ≡ bracket_of bracket signs ++ behind)
    × NeverCloses signs behind)
    ⊎ ((mark : ℕ) × (inside : List Spelling) × (behind : List ℕ)
    × HasInside opens at text mark place inside behind × BreaksOff behind)
IsFault opens at text (BadEscape place) =
    (mark start last : ℕ) × (before : List Spelling) × (bad : Spelling) × (after : List Spelling)
    × (behind : List ℕ)
    × HasInside opens at text mark start (before ++ bad ∷ after) (last ∷ behind)
    × EndsString mark last
    × (are_well_formed before ≡ true) × (stands_for bad ≡ None)
    × (place ≡ at + 1 + length (flat_map written before))
IsFault opens at text (DoubleBrace place) =
    (start : ℕ) × (inside : List Spelling) × (behind : List ℕ)
    × HasInside opens at text backquote start inside (brace ∷ brace ∷ behind)
    × (are_well_formed inside ≡ true) × (place ≡ at + 1 + length (flat_map written inside))
IsFault opens at text NoMemory = ⊥
