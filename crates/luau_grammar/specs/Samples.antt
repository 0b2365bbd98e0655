-- Some lists of tokens and their trees.
use Rattle.std.specs.Prelude.{ℕ, ◌+◌, false, length, List, [], ◌∷◌, ◌++◌, Option, None, codes}
use Rattle.luau_tree.specs.declared.position.Span.{Span}
use Rattle.luau_tree.specs.declared.names.UnOp.{UnOp}
use Rattle.luau_tree.specs.declared.names.BinOp.{BinOp}
use Rattle.luau_tree.specs.Tree.{Block, StatKind, Expr, TypeSyntax}
use Rattle.luau_tree.specs.Tree as tree
use Rattle.luau_lex.specs.declared.token.Kind.{Kind}
use Rattle.luau_lex.specs.declared.token.Kind.TheVariants as kind
use Rattle.luau_lex.specs.Tokens.{Tok}
use Rattle.luau_grammar.specs.Modules.{IsBare, max_level, strict, up_to}

-- a name, a reserved word, a sign
abbrev pub name : List ℕ → Kind × List ℕ
name bytes = (kind.Name, bytes)

abbrev pub word : List ℕ → Kind × List ℕ
word bytes = (kind.Word, bytes)

abbrev pub sign : List ℕ → Kind × List ℕ
sign bytes = (kind.Sign, bytes)

-- tokens from an offset on, one byte apart
abbrev pub spaced : ℕ → List (Kind × List ℕ) → List Tok
spaced at [] = []
spaced at (t ∷ ts) =
    record { kind = t.0; span = record { start = at; end = at + length t.1 }; bytes = t.1 } ∷ spaced (at + length t.1 + 1) ts

-- a name at an offset, as an expression and as a type
abbrev pub name_at : ℕ → List ℕ → Expr
name_at at bytes = tree.the_expr 0 (record { start = at; end = at + length bytes }) (tree.NameExpr bytes)

abbrev pub type_at : ℕ → List ℕ → TypeSyntax
type_at at bytes = tree.the_type (record { start = at; end = at + length bytes }) (tree.Named None bytes tree.no_types)

abbrev pub span_of : Expr → Span
span_of (tree.the_expr id span kind) = span

-- an operator with its operands, where a unary one begins at an offset
abbrev pub binary : BinOp → Expr → Expr → Expr
binary op left right =
    tree.the_expr 0 (record { start = (span_of left).start; end = (span_of right).end }) (tree.Binary op left right)

abbrev pub unary : UnOp → ℕ → Expr → Expr
unary op at e = tree.the_expr 0 (record { start = at; end = (span_of e).end }) (tree.Unary op e)

-- the block of one statement that ends at an offset
abbrev pub statement : ℕ → StatKind → Block
statement end kind = tree.more_stats (tree.the_stat (record { start = 0; end = end }) kind) tree.no_stats

-- these tokens have this tree
abbrev pub HasTree : List (Kind × List ℕ) → Block → Type 0
HasTree tokens b = IsBare (up_to max_level) (spaced 0 tokens) b

-- `return` before these tokens returns this expression
abbrev pub Returns : List (Kind × List ℕ) → Expr → Type 0
Returns tokens e =
    HasTree (word (codes "return") ∷ tokens) (statement ((span_of e).end) (tree.Return (tree.more_exprs e tree.no_exprs)))

-- these tokens have no tree
abbrev pub HasNoTree : List (Kind × List ℕ) → Type 0
HasNoTree tokens = (b : Block) → HasTree tokens b → ⊥

-- the call of a name, and behind it the call of another in parentheses
abbrev pub two_calls : List (Kind × List ℕ)
two_calls =
    name (codes "f") ∷ sign (codes "(") ∷ sign (codes ")") ∷ sign (codes "(") ∷ name (codes "g") ∷ sign (codes ")")
    ∷ sign (codes "(") ∷ sign (codes ")") ∷ []

-- a text of them, where the second stands on a line of its own
abbrev pub on_two_lines : List ℕ
on_two_lines = codes "f ( )" ++ 10 ∷ codes "( g ) ( )"
