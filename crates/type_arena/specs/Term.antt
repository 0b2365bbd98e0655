-- Types as plain finite terms: a free part and rows, whose fields have types that are terms again.
use Rattle.std.specs.Prelude.{ℕ, Bool, false, List, [], ◌∷◌}
use Rattle.type_arena.specs.declared.node.Among.{Among}
use Rattle.type_arena.specs.declared.node.Among.TheVariants.{Only, AllBut}
use Rattle.type_arena.specs.declared.node.FnName.{FnName}
use Rattle.type_arena.specs.declared.node.FnName.TheVariants.{Builtin, Literal}
use Rattle.type_arena.specs.declared.node.Node.{Node}

-- a set that is finite or leaves out finitely many: these members alone, or all but these
pub data Members (X : Type 0) : Type 0 where
  only : List X → Members X
  all_but : List X → Members X

-- a named function: a builtin with its path, or a function literal with its module's home and its number there
pub data Function : Type 0 where
  builtin : List ℕ → Function
  literal : ℕ → ℕ → Function

-- the part of a type that names no field
pub record Free : Type 0 where
  pub nil : Bool
  pub truth : Bool
  pub falsity : Bool
  pub number : Bool
  pub other : Bool
  pub strings : Members (List ℕ)
  pub functions : Members Function

-- a term is a free part with rows; a row says whether the table has to be frozen, and the name and the type of each of its fields
mutual
  pub data Term : Type 0 where
    term : Free → Rows → Term

  pub data Rows : Type 0 where
    no_rows : Rows
    more_rows : Bool → Fields → Rows → Rows

  pub data Fields : Type 0 where
    no_fields : Fields
    more_fields : List ℕ → Term → Fields → Fields

-- the type without values
abbrev pub never : Term
never = term (record { nil = false; truth = false; falsity = false; number = false; other = false; strings = only []; functions = only [] }) no_rows

-- the set of strings that a node gives, as plain data
abbrev pub strings_of : Among (List ℕ) → Members (List ℕ)
strings_of (Only names) = only names
strings_of (AllBut names) = all_but names

-- a name of a function, as plain data
abbrev pub function_of : FnName → Function
function_of (Builtin path) = builtin path
function_of (Literal home number) = literal home number

abbrev pub functions_in : List FnName → List Function
functions_in [] = []
functions_in (name ∷ names) = function_of name ∷ functions_in names

-- the set of functions that a node gives, as plain data
abbrev pub functions_of : Among FnName → Members Function
functions_of (Only names) = only (functions_in names)
functions_of (AllBut names) = all_but (functions_in names)

-- the free part of a node, as plain data
abbrev pub free_of : Node → Free
free_of node = record {
  nil = node.nil;
  truth = node.truth;
  falsity = node.falsity;
  number = node.number;
  other = node.other;
  strings = strings_of node.strings;
  functions = functions_of node.functions;
}
