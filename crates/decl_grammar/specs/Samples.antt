-- Some lists of tokens and their declarations.
use Rattle.std.specs.Prelude.{ℕ, List, [], ◌∷◌, ◌++◌, None, Some, codes}
use Rattle.luau_tree.specs.Tree.{TypeSyntax, TypeKind, the_type}
use Rattle.luau_lex.specs.declared.token.Kind.{Kind}
use Rattle.luau_grammar.specs.Modules.{max_level, up_to}
use Rattle.luau_grammar.specs.Samples.{name, word, sign, spaced}
use Rattle.decl_grammar.specs.Declarations.{TypeList, Declaration}
use Rattle.decl_grammar.specs.Files.{IsFile}

-- these tokens, one byte apart, are these declarations
abbrev pub AreDeclared : List (Kind × List ℕ) → List Declaration → Type 0
AreDeclared tokens ds = IsFile (up_to max_level) (spaced 0 tokens) ds

-- these tokens are no declaration file
abbrev pub IsNoFile : List (Kind × List ℕ) → Type 0
IsNoFile tokens = (ds : List Declaration) → AreDeclared tokens ds → ⊥

-- `declare function f (`, up to the offset 20
abbrev pub head : List (Kind × List ℕ)
head = name (codes "declare") ∷ word (codes "function") ∷ name (codes "f") ∷ sign (codes "(") ∷ []

-- `) : ( )`
abbrev pub no_more : List (Kind × List ℕ)
no_more = sign (codes ")") ∷ sign (codes ":") ∷ sign (codes "(") ∷ sign (codes ")") ∷ []

-- types in a row, and types with one behind dots
abbrev pub list : List TypeSyntax → TypeList
list types = record { types = types; rest = None }

abbrev pub with_rest : List TypeSyntax → TypeSyntax → TypeList
with_rest types rest = record { types = types; rest = Some rest }

-- a type between two offsets
abbrev pub between : ℕ → ℕ → TypeKind → TypeSyntax
between start end kind = the_type (record { start = start; end = end }) kind

-- the declaration of `f` behind that head, without a mark
abbrev pub of_f : TypeList → TypeList → Declaration
of_f params results = record { marks = []; at = 17; path = codes "f"; params = params; results = results }

-- tokens behind that head declare `f` with these parameters and results
abbrev pub DeclareF : List (Kind × List ℕ) → TypeList → TypeList → Type 0
DeclareF tokens params results = AreDeclared (head ++ tokens) (of_f params results ∷ [])

-- they are no declaration file
abbrev pub DeclareNothing : List (Kind × List ℕ) → Type 0
DeclareNothing tokens = IsNoFile (head ++ tokens)
