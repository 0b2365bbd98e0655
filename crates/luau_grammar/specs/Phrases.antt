-- What the phrases of the grammar that hold one another are made of.
use Rattle.std.specs.Prelude.{ℕ, Bool, true, false, List, [], ◌∷◌, Option, Some, None}
use Rattle.luau_tree.specs.Tree.{Block, Expr, TypeSyntax}
use Rattle.luau_grammar.specs.Places.{Place}

-- A list in parentheses, `([NAME ':'] type, .., tail)`, before it is known whether it is parameters, a pack or a type:
-- where it begins and ends, what is in it, whether a name stands before one of its types, and whether it has a tail.
pub record Listed : Type 0 where
  pub start : ℕ
  pub end : ℕ
  pub types : List TypeSyntax
  pub named : Bool
  pub tailed : Bool

abbrev pub one_of : List TypeSyntax → Option TypeSyntax
one_of [] = None
one_of (t ∷ []) = Some t
one_of (t ∷ u ∷ ts) = None

abbrev pub if_untailed : Bool → Option TypeSyntax → Option TypeSyntax
if_untailed true t = None
if_untailed false t = t

-- the one type of a list without a tail
abbrev pub sole : Listed → Option TypeSyntax
sole l = if_untailed l.tailed (one_of l.types)

-- the type of a list that is a type in parentheses: one type, without a name
abbrev pub in_parens : Listed → Option TypeSyntax
in_parens l = if_untailed l.named (sole l)

-- The phrases that hold phrases of these three kinds: which tree may stand between two places. A type may begin with
-- a list in parentheses that stands before the first place.
pub record Phrases : Type 1 where
  pub exp : Place → Place → Expr → Type 0
  pub typ : Option Listed → Place → Place → TypeSyntax → Type 0
  pub block : Place → Place → Block → Type 0
