-- What is known of the phrases that stand in a phrase: between two places they are pieces with their outlines.
use Rattle.std.proofs.Common.{◌≡◌, List}
use Rattle.std.specs.Prelude.{Option, Some, None}
use Rattle.luau_tree.specs.Tree.{Block, Expr, TypeSyntax}
use Rattle.luau_tree.specs.View.{types}
use Rattle.luau_lex.specs.Tokens.{Tok}
use Rattle.luau_grammar.specs.Places.{Place, first_start}
use Rattle.luau_grammar.specs.Phrases.{Phrases, Listed}
use Rattle.grammar_laws.specs.Outlines.{of_block, of_expr, of_type, of_types}
use Rattle.grammar_laws.proofs.Pieces.{Piece, Maybe}

-- A type begins at the first of these places: the second has the same tokens ahead, or a list in parentheses stands
-- before it.
abbrev pub Front : List Tok → Option Listed → Place → Place → Type 0
Front ts None r p = (r.ahead ≡ p.ahead) × (r.last ≡ p.last)
Front ts (Some l) r p = Piece ts r p (of_types (types l.types)) × (l.start ≡ first_start r.ahead) × (l.end ≡ p.last)

pub record Held (ts : List Tok) (inner : Phrases) : Type 0 where
  pub exp : (p q : Place) (e : Expr) → inner.exp p q e → Piece ts p q (of_expr e)
  pub typ : (begun : Option Listed) (r p q : Place) (t : TypeSyntax) → Front ts begun r p → inner.typ begun p q t → Piece ts r q (of_type t)
  pub block : (p q : Place) (b : Block) → inner.block p q b → Maybe ts p q (of_block b)
