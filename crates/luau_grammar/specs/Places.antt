-- Places in a list of tokens, and what stands at them.
use Rattle.std.specs.Prelude.{◌≡◌, ℕ, ◌+◌, Bool, true, ◌&&◌, List, [], ◌∷◌}
use Rattle.std.specs.Str.{bytes_eq}
use Rattle.luau_tree.specs.declared.position.Span.{Span}
use Rattle.luau_lex.specs.Tokens.{Tok}
use Rattle.luau_lex.specs.Values.{string_value}
use Rattle.luau_grammar.specs.declared.symbol.Symbol.{Symbol}
use Rattle.luau_grammar.specs.declared.symbol.Symbol.TheVariants as s
use Rattle.luau_grammar.specs.Symbols.{same, symbol_of}

-- A place in a list of tokens: the tokens ahead, where the token before ends, and the level at which the next one
-- stands.
pub record Place : Type 0 where
  pub ahead : List Tok
  pub last : ℕ
  pub level : ℕ

-- What tokens have to meet besides the grammar.
pub record Rules : Type 0 where
  -- a token may stand at this level
  pub may_stand : Tok → ℕ → Bool
  -- a parenthesis may begin arguments behind a token that ends at this offset
  pub may_call : ℕ → Tok → Bool

abbrev pub first_symbol : List Tok → Symbol
first_symbol [] = s.Stop
first_symbol (t ∷ ts) = symbol_of t

abbrev pub second_symbol : List Tok → Symbol
second_symbol [] = s.Stop
second_symbol (t ∷ ts) = first_symbol ts

-- the symbol of the next token, and of the one behind it
unfoldable pub symbol : Place → Symbol
symbol p = first_symbol p.ahead

unfoldable pub symbol_behind : Place → Symbol
symbol_behind p = second_symbol p.ahead

-- this symbol is the next, or the one behind the next
unfoldable pub sees : Symbol → Place → Bool
sees x p = same (symbol p) x

unfoldable pub sees_behind : Symbol → Place → Bool
sees_behind x p = same (symbol_behind p) x

abbrev pub first_bytes : List Tok → List ℕ
first_bytes [] = []
first_bytes (t ∷ ts) = t.bytes

-- the next token is this name, which is a word where the grammar has it
unfoldable pub sees_word : List ℕ → Place → Bool
sees_word word p = sees s.Name p && bytes_eq (first_bytes p.ahead) word

abbrev pub first_start : List Tok → ℕ
first_start [] = 0
first_start (t ∷ ts) = t.span.start

-- where the next token begins
unfoldable pub start_of : Place → ℕ
start_of p = first_start p.ahead

-- from an offset to the end of the token before a place
abbrev pub from_to : ℕ → Place → Span
from_to start q = record { start = start; end = q.last }

-- from the next token at a place to the one before another place
abbrev pub over : Place → Place → Span
over p q = from_to (start_of p) q

-- the same place at another level
abbrev pub at_level : ℕ → Place → Place
at_level level p = record { ahead = p.ahead; last = p.last; level = level }

-- the same place, one level deeper
abbrev pub raised : Place → Place
raised p = at_level (p.level + 1) p

-- the place behind a token
abbrev pub behind : Tok → List Tok → ℕ → Place
behind t ts level = record { ahead = ts; last = t.span.end; level = level }

module _ (rules : Rules) where
  -- the next token, which may stand there, is this one, and this is the place behind it
  abbrev pub IsNext : Place → Place → Tok → Type 0
  IsNext p q t =
      (ts : List Tok) × (p.ahead ≡ t ∷ ts) × (rules.may_stand t p.level ≡ true) × (q ≡ behind t ts p.level)

  -- a token of this symbol stands between two places
  unfoldable pub Takes : Symbol → Place → Place → Type 0
  Takes x p q = (t : Tok) × (symbol_of t ≡ x) × IsNext p q t

  -- a name stands between two places
  unfoldable pub TakesName : Place → Place → List ℕ → Type 0
  TakesName p q name = (t : Tok) × (symbol_of t ≡ s.Name) × (name ≡ t.bytes) × IsNext p q t

  -- a numeral, as it is written
  unfoldable pub TakesNumber : Place → Place → List ℕ → Type 0
  TakesNumber p q text = (t : Tok) × (symbol_of t ≡ s.Number) × (text ≡ t.bytes) × IsNext p q t

  -- a string token of this symbol, or a part of an interpolated string, and the bytes that it stands for
  unfoldable pub TakesString : Symbol → Place → Place → List ℕ → Type 0
  TakesString x p q value = (t : Tok) × (symbol_of t ≡ x) × (value ≡ string_value t.kind t.bytes) × IsNext p q t

  -- a parenthesis that begins arguments
  unfoldable pub OpensArguments : Place → Place → Type 0
  OpensArguments p q = (t : Tok) × (symbol_of t ≡ s.LeftParen) × (rules.may_call p.last t ≡ true) × IsNext p q t
