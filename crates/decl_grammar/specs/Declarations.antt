-- What a declaration file says, as plain data.
use Rattle.std.specs.Prelude.{ℕ, List, [], ◌∷◌, ◌++◌, Option, None}
use Rattle.luau_tree.specs.Tree.{TypeSyntax}
use Rattle.decl_grammar.specs.declared.mark.Mark.{Mark}

-- types in a row, and the type behind `...` at their end
pub record TypeList : Type 0 where
  pub types : List TypeSyntax
  pub rest : Option TypeSyntax

-- one type alone
abbrev pub only : TypeSyntax → TypeList
only t = record { types = t ∷ []; rest = None }

-- a declaration: the marks before it, where its path begins, the path, and the types of its parameters and results
pub record Declaration : Type 0 where
  pub marks : List Mark
  pub at : ℕ
  pub path : List ℕ
  pub params : TypeList
  pub results : TypeList

-- a path of two names: a dot (46) stands between them
abbrev pub dotted : List ℕ → List ℕ → List ℕ
dotted library name = library ++ 46 ∷ name
