-- The tokens that close what is open, and what each symbol goes on with.
use Rattle.std.proofs.Common.{◌≡◌, ℕ, false, List, [], codes, refl, None}
use Rattle.luau_lex.specs.Tokens.{Tok}
use Rattle.luau_lex.specs.declared.token.Kind.{Kind}
use Rattle.luau_lex.specs.declared.token.Kind.TheVariants as kind
use Rattle.luau_grammar.specs.declared.symbol.Symbol.{Symbol}
use Rattle.luau_grammar.specs.declared.symbol.Symbol.TheVariants as s
use Rattle.luau_grammar.specs.Symbols.{same}
use Rattle.luau_grammar.specs.Operators.{binary_of}
use Rattle.luau_grammar.specs.Samples.{name, word, sign}

-- a closing token at an offset
abbrev pub closing : ℕ → Kind × List ℕ → Tok
closing at k = record { kind = k.0; span = record { start = at; end = at }; bytes = k.1 }

abbrev pub the_name : ℕ → Tok
the_name at = closing at (name (codes "x"))

abbrev pub the_sign : ℕ → List ℕ → Tok
the_sign at bytes = closing at (sign bytes)

abbrev pub the_word : ℕ → List ℕ → Tok
the_word at bytes = closing at (word bytes)

-- a closing string, and the part that ends an interpolated string
abbrev pub the_text : ℕ → Tok
the_text at = record { kind = kind.Quoted; span = record { start = at; end = at }; bytes = [] }

abbrev pub the_last : ℕ → Tok
the_last at = record { kind = kind.End; span = record { start = at; end = at }; bytes = [] }

abbrev pub the_mid : ℕ → Tok
the_mid at = record { kind = kind.Mid; span = record { start = at; end = at }; bytes = [] }

abbrev pub the_begin : ℕ → Tok
the_begin at = record { kind = kind.Begin; span = record { start = at; end = at }; bytes = [] }

abbrev pub the_whole : ℕ → Tok
the_whole at = record { kind = kind.Whole; span = record { start = at; end = at }; bytes = [] }

-- a closing numeral
abbrev pub the_number : ℕ → Tok
the_number at = record { kind = kind.Numeral; span = record { start = at; end = at }; bytes = [] }

-- no type goes on with a symbol
pub record EndsType (x : Symbol) : Type 0 where
  pub question : same x s.Question ≡ false
  pub pipe : same x s.Pipe ≡ false
  pub ampersand : same x s.Ampersand ≡ false
  pub arrow : same x s.Arrow ≡ false
  pub less : same x s.Less ≡ false
  pub dot : same x s.Dot ≡ false
  pub dots : same x s.Dots ≡ false
  pub colon : same x s.Colon ≡ false
  pub paren : same x s.LeftParen ≡ false
  pub assign : same x s.Assign ≡ false
  pub name : same x s.Name ≡ false
  pub bracket : same x s.LeftBracket ≡ false

-- no expression does
pub record EndsValue (x : Symbol) : Type 0 where
  pub typ : EndsType x
  pub bracket : same x s.LeftBracket ≡ false
  pub brace : same x s.LeftBrace ≡ false
  pub text : same x s.Text ≡ false
  pub cast : same x s.DoubleColon ≡ false
  pub binary : binary_of x ≡ None

-- no list of them does
pub record EndsTypes (x : Symbol) : Type 0 where
  pub one : EndsType x
  pub comma : same x s.Comma ≡ false

pub record EndsValues (x : Symbol) : Type 0 where
  pub one : EndsValue x
  pub comma : same x s.Comma ≡ false

pub right_paren : EndsTypes s.RightParen
unfolding same
right_paren = record { one = record { question = refl; pipe = refl; ampersand = refl; arrow = refl; less = refl; dot = refl; dots = refl; colon = refl; paren = refl; assign = refl; name = refl; bracket = refl }; comma = refl }

pub right_bracket : EndsTypes s.RightBracket
unfolding same
right_bracket = record { one = record { question = refl; pipe = refl; ampersand = refl; arrow = refl; less = refl; dot = refl; dots = refl; colon = refl; paren = refl; assign = refl; name = refl; bracket = refl }; comma = refl }

pub right_brace : EndsTypes s.RightBrace
unfolding same
right_brace = record { one = record { question = refl; pipe = refl; ampersand = refl; arrow = refl; less = refl; dot = refl; dots = refl; colon = refl; paren = refl; assign = refl; name = refl; bracket = refl }; comma = refl }

pub greater : EndsTypes s.Greater
unfolding same
greater = record { one = record { question = refl; pipe = refl; ampersand = refl; arrow = refl; less = refl; dot = refl; dots = refl; colon = refl; paren = refl; assign = refl; name = refl; bracket = refl }; comma = refl }

pub value_paren : EndsValue s.RightParen
unfolding same
value_paren = record { typ = right_paren.one; bracket = refl; brace = refl; text = refl; cast = refl; binary = refl }

pub value_bracket : EndsValue s.RightBracket
unfolding same
value_bracket = record { typ = right_bracket.one; bracket = refl; brace = refl; text = refl; cast = refl; binary = refl }

pub value_brace : EndsValue s.RightBrace
unfolding same
value_brace = record { typ = right_brace.one; bracket = refl; brace = refl; text = refl; cast = refl; binary = refl }

pub value_then : EndsValue s.Then
unfolding same
value_then = record { typ = record { question = refl; pipe = refl; ampersand = refl; arrow = refl; less = refl; dot = refl; dots = refl; colon = refl; paren = refl; assign = refl; name = refl; bracket = refl }; bracket = refl; brace = refl; text = refl; cast = refl; binary = refl }

pub value_else : EndsValue s.Else
unfolding same
value_else = record { typ = record { question = refl; pipe = refl; ampersand = refl; arrow = refl; less = refl; dot = refl; dots = refl; colon = refl; paren = refl; assign = refl; name = refl; bracket = refl }; bracket = refl; brace = refl; text = refl; cast = refl; binary = refl }

pub value_do : EndsValue s.Do
unfolding same
value_do = record { typ = record { question = refl; pipe = refl; ampersand = refl; arrow = refl; less = refl; dot = refl; dots = refl; colon = refl; paren = refl; assign = refl; name = refl; bracket = refl }; bracket = refl; brace = refl; text = refl; cast = refl; binary = refl }

pub value_comma : EndsValue s.Comma
unfolding same
value_comma = record { typ = record { question = refl; pipe = refl; ampersand = refl; arrow = refl; less = refl; dot = refl; dots = refl; colon = refl; paren = refl; assign = refl; name = refl; bracket = refl }; bracket = refl; brace = refl; text = refl; cast = refl; binary = refl }

pub type_in : EndsType s.In
unfolding same
type_in = record { question = refl; pipe = refl; ampersand = refl; arrow = refl; less = refl; dot = refl; dots = refl; colon = refl; paren = refl; assign = refl; name = refl; bracket = refl }
