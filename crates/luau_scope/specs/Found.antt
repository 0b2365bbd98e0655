-- What can be found in a module, and where one looks for it.
use Rattle.std.specs.Prelude.{ℕ, suc, ◌+◌, ◌==◌, Bool, true, false, List, [], ◌∷◌, ◌++◌, Option, Some, None, if◌then◌else◌}
use Rattle.std.specs.Str.{bytes_eq}
use Rattle.luau_tree.specs.declared.position.Span.{Span}
use Rattle.luau_tree.specs.declared.names.ExprId.{ExprId}
use Rattle.luau_tree.specs.declared.names.FnId.{FnId}
use Rattle.luau_scope.specs.declared.reading.Use.{Use}
use Rattle.luau_scope.specs.declared.reading.RequireSite.{RequireSite}
use Rattle.luau_scope.specs.declared.refusal.Refusal.{Refusal}

-- what is found, piece by piece
pub data Found : Type 0 where
  -- a local is declared: its name, in which body, and the expression that is given to it
  Declares : (name : List ℕ) (declared : Span) (function : Option FnId) (given : Option ExprId) → Found
  -- an expression stands for something
  Means : (at : ExprId) (meaning : Use) → Found
  -- a function literal within the declaring function uses a local
  Captures : (local : ℕ) → Found
  -- an assignment, or a function statement, gives a local another value
  Assigns : (local : ℕ) → Found
  -- a static require
  RequiresModule : (site : RequireSite) → Found
  -- a `continue` of the `repeat` around, and how many locals are declared before it
  Continues : (at : Span) (before : ℕ) → Found
  -- the profile refuses something
  Refuses : (why : Refusal) (at : Span) → Found

-- how many locals are declared
abbrev pub declarations : List Found → ℕ
declarations [] = 0
declarations (Declares name declared function given ∷ found) = suc (declarations found)
declarations (other ∷ found) = declarations found

-- What is found in a part of a text, in the order of the text, where so many locals are declared before the part. That
-- number is the number of the first local of the part.
abbrev pub Part : Type 0
Part = ℕ → List Found

-- nothing
abbrev pub nothing : Part
nothing before = []

-- one thing
abbrev pub one : Found → Part
one found before = found ∷ []

-- a part, and then another
unfoldable pub join : Part → Part → Part
join first second before = let found = first before in found ++ second (before + declarations found)

infixr 20 ◌then◌
abbrev pub ◌then◌ : Part → Part → Part
first then second = join first second

-- a local in scope: its name, its number, and the body that declares it
pub record Visible : Type 0 where
  pub name : List ℕ
  pub local : ℕ
  pub function : Option FnId

-- the locals in scope, in the order in which they came into scope
abbrev pub Scope : Type 0
Scope = List Visible

-- the loop around, in the same function
pub data Loop : Type 0 where
  NoLoop : Loop
  RepeatLoop : Loop
  OtherLoop : Loop

-- what is around a piece of a module
pub record Around : Type 0 where
  -- the paths of the declared builtins
  pub paths : List (List ℕ)
  pub scope : Scope
  -- the body that it belongs to, or none in the module's own block
  pub function : Option FnId
  -- whether that takes `...`
  pub takes : Bool
  -- how many locals in scope are not its own
  pub outside : ℕ
  pub loop : Loop

-- the local that a name means: the innermost of that name, which is the last that came into scope
abbrev pub meant : Scope → List ℕ → Option Visible
meant [] name = None
meant (v ∷ scope) name = elim (meant scope name) [ None ↦ if bytes_eq v.name name then Some v else None | Some inner ↦ Some inner ]

-- whether two bodies, or the module's own block, are the same
abbrev pub same_function : Option FnId → Option FnId → Bool
same_function None None = true
same_function None (Some g) = false
same_function (Some f) None = false
same_function (Some f) (Some g) = f.0 == g.0
