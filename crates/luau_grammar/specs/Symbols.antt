-- What the grammar tells tokens apart by.
use Rattle.std.specs.Prelude.{ℕ, Bool, List, [], ◌∷◌, codes, if◌then◌else◌}
use Rattle.std.specs.Str.{bytes_eq}
use denote.Enum.Bare.{sameb}
use Rattle.luau_lex.specs.declared.token.Kind.TheVariants as kind
use Rattle.luau_lex.specs.declared.token.Kind.{Kind}
use Rattle.luau_lex.specs.Tokens.{Tok}
use Rattle.luau_grammar.specs.contracts.symbol.Symbol.{the_type}
use Rattle.luau_grammar.specs.declared.symbol.Symbol.{Symbol}
use Rattle.luau_grammar.specs.declared.symbol.Symbol.TheVariants as s

-- whether two symbols are one
unfoldable pub same : Symbol → Symbol → Bool
same = sameb the_type

-- the symbol that a table has for these bytes
abbrev pub look_up : List (List ℕ × Symbol) → List ℕ → Symbol
look_up [] bytes = s.Stray
look_up (e ∷ es) bytes = if bytes_eq bytes e.0 then e.1 else look_up es bytes

abbrev pub words : List (List ℕ × Symbol)
words =
    (codes "and", s.And) ∷ (codes "break", s.Break) ∷ (codes "do", s.Do) ∷ (codes "else", s.Else)
    ∷ (codes "elseif", s.ElseIf) ∷ (codes "end", s.End) ∷ (codes "false", s.False)
    ∷ (codes "for", s.For) ∷ (codes "function", s.Function) ∷ (codes "if", s.If)
    ∷ (codes "in", s.In) ∷ (codes "local", s.Local) ∷ (codes "nil", s.Nil)
    ∷ (codes "not", s.Not) ∷ (codes "or", s.Or) ∷ (codes "repeat", s.Repeat)
    ∷ (codes "return", s.Return) ∷ (codes "then", s.Then) ∷ (codes "true", s.True)
    ∷ (codes "until", s.Until) ∷ (codes "while", s.While) ∷ []

abbrev pub signs : List (List ℕ × Symbol)
signs =
    (codes "(", s.LeftParen) ∷ (codes ")", s.RightParen) ∷ (codes ",", s.Comma)
    ∷ (codes ".", s.Dot) ∷ (codes "=", s.Assign) ∷ (codes ":", s.Colon)
    ∷ (codes "{", s.LeftBrace) ∷ (codes "}", s.RightBrace)
    ∷ (codes "[", s.LeftBracket) ∷ (codes "]", s.RightBracket)
    ∷ (codes "==", s.Equal) ∷ (codes "~=", s.NotEqual) ∷ (codes "..", s.DoubleDot)
    ∷ (codes "+", s.Plus) ∷ (codes "-", s.Minus) ∷ (codes "*", s.Star)
    ∷ (codes "/", s.Slash) ∷ (codes "//", s.DoubleSlash) ∷ (codes "%", s.Percent)
    ∷ (codes "^", s.Caret) ∷ (codes "#", s.Hash) ∷ (codes "<", s.Less)
    ∷ (codes ">", s.Greater) ∷ (codes "<=", s.LessEqual) ∷ (codes ">=", s.GreaterEqual)
    ∷ (codes "+=", s.AddAssign) ∷ (codes "-=", s.SubAssign) ∷ (codes "*=", s.MulAssign)
    ∷ (codes "/=", s.DivAssign) ∷ (codes "//=", s.FloorDivAssign) ∷ (codes "%=", s.ModAssign)
    ∷ (codes "^=", s.PowAssign) ∷ (codes "..=", s.ConcatAssign) ∷ (codes "::", s.DoubleColon)
    ∷ (codes ";", s.Semicolon) ∷ (codes "...", s.Dots) ∷ (codes "->", s.Arrow)
    ∷ (codes "?", s.Question) ∷ (codes "|", s.Pipe) ∷ (codes "&", s.Ampersand)
    ∷ (codes "@", s.AtSign) ∷ []

abbrev pub symbol_by : Kind → List ℕ → Symbol
symbol_by kind.Name bytes = s.Name
symbol_by kind.Word bytes = look_up words bytes
symbol_by kind.Numeral bytes = s.Number
symbol_by kind.Quoted bytes = s.Text
symbol_by kind.Long bytes = s.Text
symbol_by kind.Whole bytes = s.Whole
symbol_by kind.Begin bytes = s.Begin
symbol_by kind.Mid bytes = s.Mid
symbol_by kind.End bytes = s.Last
symbol_by kind.Sign bytes = look_up signs bytes

-- the symbol of a token
unfoldable pub symbol_of : Tok → Symbol
symbol_of t = symbol_by t.kind t.bytes
