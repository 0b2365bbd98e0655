-- The bytes that a string stands for.
use Rattle.std.specs.Prelude.{◌≡◌, ℕ, Bool, true, false, List, [], ◌∷◌, ◌++◌, flat_map}
use Rattle.luau_lex.specs.declared.token.Kind.{Kind}
use Rattle.luau_lex.specs.declared.token.Kind.TheVariants.{Name, Word, Numeral, Quoted, Long, Whole, Begin, Mid, End, Sign}
use Rattle.luau_lex.specs.Spellings.{Spelling, written, AreSpellings, stand_for}
use Rattle.luau_lex.specs.Forms.{in_brackets}
use Rattle.luau_lex.specs.LineEnds.{without_first_line_end, with_line_feeds}
pub use Rattle.luau_lex.specs.Computed.Values.{string_value}

-- the kinds of strings, and of the parts of an interpolated string
abbrev pub is_string : Kind → Bool
is_string Quoted = true
is_string Long = true
is_string Whole = true
is_string Begin = true
is_string Mid = true
is_string End = true
is_string Name = false
is_string Word = false
is_string Numeral = false
is_string Sign = false

-- The bytes stand for this value, where they are what spells the inside of a string, between a byte
-- at each end.
abbrev pub MarkedStandsFor : List ℕ → List ℕ → Type 0
MarkedStandsFor bytes value =
    (mark first last : ℕ) (inside : List Spelling) →
    bytes ≡ first ∷ (flat_map written inside ++ last ∷ []) →
    AreSpellings mark inside (last ∷ []) → value ≡ stand_for inside

-- The bytes stand for this value, where they are a body in long brackets: for the body, without a
-- line end at its front, and with a line feed for each further line end.
abbrev pub LongStandsFor : List ℕ → List ℕ → Type 0
LongStandsFor bytes value =
    (signs : ℕ) (body : List ℕ) → bytes ≡ in_brackets signs body →
    value ≡ with_line_feeds (without_first_line_end body)

-- a string of this kind and with these bytes, or a part of an interpolated string, stands for this
-- value
abbrev pub StandsFor : Kind → List ℕ → List ℕ → Type 0
StandsFor Long bytes value = LongStandsFor bytes value
StandsFor other bytes value = MarkedStandsFor bytes value
