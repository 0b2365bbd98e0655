-- A token as plain data.
use Rattle.std.specs.Prelude.{ℕ, List}
use Rattle.luau_tree.specs.declared.position.Span.{Span}
use Rattle.luau_lex.specs.declared.token.Kind.{Kind}
use Rattle.luau_lex.specs.declared.token.Token.{Token}

-- a token: its kind, its place, and its bytes
pub record Tok : Type 0 where
  pub kind : Kind
  pub span : Span
  pub bytes : List ℕ

-- the program's form of a token
abbrev pub seen_token : Token → Tok
seen_token t = record { kind = t.kind; span = t.span; bytes = t.text.now }
