-- Written types and small modules for the computed examples.
use Rattle.std.specs.Prelude.{ℕ, zero, suc, List, [], ◌∷◌, None, codes, false, replicate}
use Rattle.luau_tree.specs.declared.position.Span.{Span}
use Rattle.luau_tree.specs.declared.names.Access.{Access}
use Rattle.luau_tree.specs.declared.names.Access.TheVariants.{Both}
use Rattle.luau_tree.specs.Tree.{Block, no_stats, more_stats, the_stat, StatKind, TypeAlias, LocalFunction, the_body, no_varargs, the_bind, no_binds, more_binds, the_gen, Gens, no_gens, more_gens, no_type, a_type, TypeSyntax, the_type, TypeSyntaxes, no_types, more_types, TypeKind, StrType, Named, TableType, Prop, the_prop, Props, no_props, more_props, NameKey}
use Rattle.type_arena.specs.Term.{Term}
use Rattle.annotations.specs.Lowered.{lower}
use Rattle.annotations.specs.Annotated.{annotation}

-- a place in the text, which plays no part here
abbrev pub nowhere : Span
nowhere = record { start = 0; end = 0 }

abbrev pub written : TypeKind → TypeSyntax
written kind = the_type nowhere kind

-- `NAME`
abbrev pub name : List ℕ → TypeSyntax
name bytes = written (Named None bytes no_types)

abbrev pub types : List TypeSyntax → TypeSyntaxes
types [] = no_types
types (type ∷ rest) = more_types type (types rest)

-- a property of a name, with how it may be used
abbrev pub prop : Access → List ℕ → TypeSyntax → Prop
prop access key type = the_prop access (NameKey key) type

abbrev pub props : List Prop → Props
props [] = no_props
props (p ∷ ps) = more_props p (props ps)

-- `{ .. }`
abbrev pub table : List Prop → TypeSyntax
table list = written (TableType (props list))

-- `{x: T}`
abbrev pub x_of : TypeSyntax → TypeSyntax
x_of type = table (prop Both (codes "x") type ∷ [])

-- the type of a written type where no alias is visible, and where these aliases are
abbrev pub alone : TypeKind → Term
alone kind = lower [] (written kind)

abbrev pub seeing : List (List ℕ × TypeSyntax) → List ℕ → Term
seeing aliases bytes = lower aliases (name bytes)

-- as many types in a row, each a table whose x is a string of its own
abbrev pub texts : ℕ → List TypeSyntax
texts zero = []
texts (suc n) = x_of (written (StrType (replicate n 97))) ∷ texts n

-- generics without defaults
abbrev pub generics : List (List ℕ) → Gens
generics [] = no_gens
generics (n ∷ ns) = more_gens (the_gen n nowhere false no_type) (generics ns)

-- `local function f<GENERICS>(x: TYPE) end`, with a number
abbrev pub function : ℕ → List (List ℕ) → TypeSyntax → StatKind
function id names type = LocalFunction (the_bind (codes "f") nowhere no_type) (the_body id false (generics names) (more_binds (the_bind (codes "x") nowhere (a_type type)) no_binds) no_varargs no_type no_stats nowhere)

-- `type NAME<GENERICS> = TYPE`
abbrev pub alias : List ℕ → List (List ℕ) → TypeSyntax → StatKind
alias bytes names type = TypeAlias false bytes (generics names) type

abbrev pub stats : List StatKind → Block
stats [] = no_stats
stats (kind ∷ kinds) = more_stats (the_stat nowhere kind) (stats kinds)

-- the type of the first parameter of the function 0 of a module
abbrev pub param : List StatKind → Term
param kinds = annotation (stats kinds) 0 0

-- a table in a table, and so on, to this depth
abbrev pub nested : ℕ → TypeSyntax
nested zero = name (codes "string")
nested (suc n) = x_of (nested n)
