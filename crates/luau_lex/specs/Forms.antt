-- The forms of tokens, and of what stands between them, by cases on their bytes.
use Rattle.std.specs.Prelude.{◌≡◌, ℕ, ◌≤◌, true, false, ◌⊎◌, List, [], ◌∷◌, ◌++◌, length, slice_index, flat_map, replicate, Bool, ◌&&◌, nat_lt}
use Rattle.std.specs.List.{list_all}
use Rattle.luau_lex.specs.declared.token.Kind.{Kind}
use Rattle.luau_lex.specs.declared.token.Kind.TheVariants.{Name, Word, Numeral, Quoted, Long, Whole, Begin, Mid, End, Sign}
use Rattle.luau_lex.specs.Bytes.{line_feed, double_quote, single_quote, minus, equals, bracket, closing_bracket, backquote, brace, closing_brace, is_blank, is_no_line_feed}
use Rattle.luau_lex.specs.Names.{is_listed, reserved_words, is_name}
use Rattle.luau_lex.specs.Numerals.{IsNumeral}
use Rattle.luau_lex.specs.Signs.{is_sign}
use Rattle.luau_lex.specs.Spellings.{Spelling, written, AreSpellings, are_well_formed}
use Rattle.luau_lex.specs.Token.{Tok}

-- A string of this mark between these two bytes: what stands between them is spelled as the inside
-- of such a string, with no malformed escape.
abbrev pub IsMarked : ℕ → ℕ → ℕ → List ℕ → Type 0
IsMarked mark first last bytes =
    (inside : List Spelling) × (bytes ≡ first ∷ (flat_map written inside ++ last ∷ []))
    × AreSpellings mark inside (last ∷ []) × (are_well_formed inside ≡ true)

-- a bracket of a long bracket's level: two of these bytes, with equals signs between them
abbrev pub bracket_of : ℕ → ℕ → List ℕ
bracket_of b signs = b ∷ (replicate signs equals ++ b ∷ [])

-- Before the closing bracket of this level behind the body, none stands.
abbrev pub ClosesFirst : ℕ → List ℕ → Type 0
ClosesFirst signs body =
    let closing = bracket_of closing_bracket signs in
    (before behind : List ℕ) → body ++ closing ≡ before ++ (closing ++ behind) →
    length body ≤ length before

-- a body in long brackets of this level
abbrev pub in_brackets : ℕ → List ℕ → List ℕ
in_brackets signs body = bracket_of bracket signs ++ (body ++ bracket_of closing_bracket signs)

-- the bytes are a body in long brackets of this level
abbrev pub IsLong : ℕ → List ℕ → List ℕ → Type 0
IsLong signs body bytes = (bytes ≡ in_brackets signs body) × ClosesFirst signs body

-- the bytes are of the form of this kind
abbrev pub HasForm : Kind → List ℕ → Type 0
HasForm Name bytes = (is_name bytes ≡ true) × (is_listed bytes reserved_words ≡ false)
HasForm Word bytes = (is_name bytes ≡ true) × (is_listed bytes reserved_words ≡ true)
HasForm Numeral bytes = IsNumeral bytes
HasForm Quoted bytes =
    IsMarked double_quote double_quote double_quote bytes
    ⊎ IsMarked single_quote single_quote single_quote bytes
HasForm Long bytes = (signs : ℕ) × (body : List ℕ) × IsLong signs body bytes
HasForm Whole bytes = IsMarked backquote backquote backquote bytes
HasForm Begin bytes = IsMarked backquote backquote brace bytes
HasForm Mid bytes = IsMarked backquote closing_brace brace bytes
HasForm End bytes = IsMarked backquote closing_brace backquote bytes
HasForm Sign bytes = is_sign bytes ≡ true

-- each token has the form of its kind
abbrev pub HaveForms : List Tok → Type 0
HaveForms [] = Unit {0}
HaveForms (t ∷ ts) = HasForm t.kind t.bytes × HaveForms ts

-- no long bracket opens at the front
abbrev pub NoneOpens : List ℕ → Type 0
NoneOpens bytes = (signs : ℕ) (behind : List ℕ) → bytes ≡ bracket_of bracket signs ++ behind → ⊥

-- one or more blanks
abbrev pub is_blanks : List ℕ → Bool
is_blanks bytes = nat_lt 0 (length bytes) && list_all is_blank bytes

-- a line ends before these bytes: at a line feed, or at the end of the text
abbrev pub EndsLine : List ℕ → Type 0
EndsLine behind = (behind ≡ []) ⊎ (slice_index behind 0 ≡ line_feed)

-- a comment to the end of its line, before these bytes
abbrev pub IsLineComment : List ℕ → List ℕ → Type 0
IsLineComment bytes behind =
    (words : List ℕ) × (bytes ≡ minus ∷ minus ∷ words) × (list_all is_no_line_feed words ≡ true)
    × NoneOpens words × EndsLine behind

-- a comment in long brackets
abbrev pub IsLongComment : List ℕ → Type 0
IsLongComment bytes =
    (signs : ℕ) × (body : List ℕ) × (long : List ℕ) × (bytes ≡ minus ∷ minus ∷ long)
    × IsLong signs body long

-- blanks, or a comment, before these bytes
abbrev pub IsGapPart : List ℕ → List ℕ → Type 0
IsGapPart bytes behind =
    (is_blanks bytes ≡ true) ⊎ (IsLineComment bytes behind ⊎ IsLongComment bytes)

-- these parts of blanks and comments, one behind the other, before these bytes
abbrev pub IsGapOf : List (List ℕ) → List ℕ → List ℕ → Type 0
IsGapOf [] bytes behind = bytes ≡ []
IsGapOf (part ∷ parts) bytes behind =
    (rest : List ℕ) × IsGapPart part (rest ++ behind) × (bytes ≡ part ++ rest)
    × IsGapOf parts rest behind

-- blanks and comments alone, or nothing, before these bytes
abbrev pub IsGap : List ℕ → List ℕ → Type 0
IsGap bytes behind = (parts : List (List ℕ)) × IsGapOf parts bytes behind
