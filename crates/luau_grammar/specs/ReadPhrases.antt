-- The parsers of phrases of their own, one level deeper.
use Rattle.std.specs.Prelude.{Bool, true, false, Option, Some, None}
use Rattle.luau_tree.specs.Tree.{Block, Expr, TypeSyntax}
use Rattle.luau_grammar.specs.declared.symbol.Symbol.{Symbol}
use Rattle.luau_grammar.specs.declared.symbol.Symbol.TheVariants as s
use Rattle.luau_grammar.specs.Places.{Place, symbol}
use Rattle.luau_grammar.specs.Phrases.{Listed}
use Rattle.luau_grammar.specs.Expressions as expressions
use Rattle.luau_grammar.specs.Statements as statements
use Rattle.luau_grammar.specs.Reading.{Setting, Parser, Readers, phrase}

-- what begins a type, by its symbol
abbrev pub begins_type : Symbol → Bool
begins_type s.Pipe = true
begins_type s.Ampersand = true
begins_type s.Nil = true
begins_type s.True = true
begins_type s.False = true
begins_type s.Text = true
begins_type s.Name = true
begins_type s.LeftBrace = true
begins_type s.Less = true
begins_type s.LeftParen = true
begins_type _ = false

abbrev pub may_begin_type : Option Listed → Place → Bool
may_begin_type None p = begins_type (symbol p)
may_begin_type (Some l) p = true

abbrev pub may_begin_expression : Place → Bool
may_begin_expression p = expressions.begins (symbol p)

abbrev pub may_begin_block : Place → Bool
may_begin_block p = statements.begins (symbol p)

module _ (set : Setting) (inner : Readers) where
  unfoldable pub expression : Parser Expr
  expression = phrase set may_begin_expression inner.exp

  unfoldable pub typ : Option Listed → Parser TypeSyntax
  typ begun = phrase set (may_begin_type begun) (inner.typ begun)

  unfoldable pub block : Parser Block
  block = phrase set may_begin_block inner.block
