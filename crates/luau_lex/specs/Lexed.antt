-- The laws that determine the tokens of a text, or its first fault.
use Rattle.std.specs.Prelude.{◌≡◌, ℕ, ◌+◌, ◌-◌, ◌≤◌, List, [], ◌∷◌, length, take, drop, Option, None, Some}
use Rattle.luau_lex.specs.declared.token.LexError.{LexError}
use Rattle.luau_lex.specs.declared.piece.Open.{Open}
use Rattle.luau_lex.specs.Token.{Tok}
use Rattle.luau_lex.specs.Forms.{HaveForms, IsGap}
use Rattle.luau_lex.specs.Places.{first_line_len, StandInOrder}
use Rattle.luau_lex.specs.Braces.{braces_behind, MatchBraces}
use Rattle.luau_lex.specs.LongestTokens.{AreLongest, StandClear}
use Rattle.luau_lex.specs.Faults.{IsFault}

-- What is left of a text is nothing, or this fault stands at its front, at this offset and within
-- these open braces.
abbrev pub EndsWith : Option LexError → List Open → ℕ → List ℕ → Type 0
EndsWith None opens at text = text ≡ []
EndsWith (Some fault) opens at text = IsFault opens at text fault

-- Blanks and comments alone stand before each token, and behind the last, up to the end of the text
-- or up to this fault. What is left of the text begins at this offset, within these open braces.
abbrev pub StandApart : Option LexError → List Open → ℕ → List ℕ → List Tok → Type 0
StandApart fault opens at text [] =
    (n : ℕ) × (n ≤ length text) × IsGap (take n text) (drop n text)
    × EndsWith fault opens (at + n) (drop n text)
StandApart fault opens at text (t ∷ ts) =
    IsGap (take (t.span.start - at) text) (drop (t.span.start - at) text)
    × StandApart fault (braces_behind t opens) t.span.end (drop (t.span.end - at) text) ts

-- What is left of a text, from this offset on and within these open braces, has these tokens, up to
-- its end or up to this fault.
pub record Lawful (fault : Option LexError) (opens : List Open) (at : ℕ) (text : List ℕ) (ts : List Tok) : Type 0 where
  -- they stand in order, each with the bytes at its place
  pub in_order : StandInOrder at text ts
  -- each has the form of its kind
  pub forms : HaveForms ts
  -- blanks and comments alone stand between, and then the text ends or the fault stands
  pub apart : StandApart fault opens at text ts
  -- a closing brace goes on with an interpolated string exactly where the innermost open brace is
  -- one's
  pub braces : MatchBraces opens ts
  -- none could be longer at its place
  pub longest : AreLongest opens at text ts
  -- no sign stands where a long bracket opens, and no brace behind the one that leaves an
  -- interpolated string
  pub clear : StandClear at text ts

-- The text has these tokens, up to its end or up to this first fault. A first line that begins with
-- #! is left out.
abbrev pub Lexed : List ℕ → List Tok → Option LexError → Type 0
Lexed text ts fault = Lawful fault [] (first_line_len text) (drop (first_line_len text) text) ts
