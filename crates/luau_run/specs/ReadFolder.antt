-- Read folders: the programs that a folder of modules may be read as. Which of the locals a name
-- means, and what annotations say, is not said here.
use Rattle.std.specs.Prelude.{◌≡◌, ◌<◌, ⊤, ℕ, zero, suc, Bool, true, false, not, ◌&&◌, ◌==◌, List, [], ◌∷◌, ◌++◌, length, map, Option, Some, None, is_some, slice_get}
use Rattle.std.specs.Option.{option_map_or}
use Rattle.std.specs.List.{AllByRecursion, list_any, filter_map}
use Rattle.std.specs.Str.{bytes_eq}
use Rattle.luau_values.specs.Start.{library_of}
use Rattle.luau_tree.specs.Tree.{the_expr, ExprKind, NameExpr, Index, Body, the_body, the_bind}
use Rattle.luau_run.specs.Signature.{declaration}
use Rattle.luau_run.specs.ReadModule.{Use, UseLocal, UseBuiltin, UseLibrary, UseGlobal, ReadModule}
use Rattle.luau_run.specs.Program.{Program, paths}
use Rattle.luau_run.specs.SyntaxNode.{SyntaxNode, AnExpr, ABody, ABind, of_block, inside}

-- whether a number is among some
abbrev pub is_among : ℕ → List ℕ → Bool
is_among n numbers = list_any (λ m. n == m) numbers

-- whether no number stands twice
abbrev pub are_distinct : List ℕ → Bool
are_distinct [] = true
are_distinct (n ∷ numbers) = not (is_among n numbers) && are_distinct numbers

-- a module has a static require that means another
abbrev pub Requires : Program → (at other : ℕ) → Type 0
Requires program at other =
    (reading : ReadModule) × (id : ℕ) × (slice_get program.modules at ≡ Some reading) × (reading.required id ≡ Some other)

-- a module leads to another by one require and so many more
abbrev pub Leads : Program → (more at other : ℕ) → Type 0
Leads program zero at other = Requires program at other
Leads program (suc more) at other = (via : ℕ) × Requires program at via × Leads program more via other

-- the name that an expression is
abbrev pub name_of : ExprKind → Option (List ℕ)
name_of (NameExpr name) = Some name
name_of _ = None

-- the path that an expression spells: a name, or a name, a dot and another name
abbrev pub spelled : ExprKind → Option (List ℕ)
spelled (NameExpr name) = Some name
spelled (Index (the_expr id span base) name) = option_map_or (λ library. Some (library ++ 46 ∷ name)) (name_of base) None
spelled _ = None

-- whether a name is the library of a declared builtin
abbrev pub is_library_name : Program → List ℕ → Bool
is_library_name program name =
    list_any (λ path. option_map_or (bytes_eq name) (library_of path) false) (paths program)

-- whether a name is that of neither a declared builtin nor a library
abbrev pub is_global_name : Program → List ℕ → Bool
is_global_name program name =
    not (is_some (declaration program.builtins name)) && not (is_library_name program name)

-- whether an expression may stand for this: a declared builtin by its path, or, if it is a name, a
-- library by its name, a local, or a global that is neither; what stands for nothing is no name
abbrev pub may_mean : Program → ExprKind → Option Use → Bool
may_mean program kind None = not (is_some (name_of kind))
may_mean program kind (Some (UseBuiltin path)) =
    is_some (declaration program.builtins path) && option_map_or (bytes_eq path) (spelled kind) false
may_mean program kind (Some UseLibrary) = option_map_or (is_library_name program) (name_of kind) false
may_mean program kind (Some (UseLocal local)) = is_some (name_of kind)
may_mean program kind (Some UseGlobal) = option_map_or (is_global_name program) (name_of kind) false

-- the local that a use is
abbrev pub local_of : Option Use → Option ℕ
local_of (Some (UseLocal local)) = Some local
local_of _ = None

-- the local that a node uses
abbrev pub used_by : ReadModule → SyntaxNode → Option ℕ
used_by reading (AnExpr (the_expr id span kind)) = local_of (reading.use_of id)
used_by reading _ = None

-- the local that a node declares
abbrev pub declared_by : ReadModule → SyntaxNode → Option ℕ
declared_by reading (ABind (the_bind name span typ)) = Some (reading.local_at span.start)
declared_by reading _ = None

-- whether a body uses a local, itself or in a function literal within
abbrev pub uses : ReadModule → Body → (local : ℕ) → Bool
uses reading body local = is_among local (filter_map (used_by reading) (inside body))

-- whether a body declares a local, itself or in a function literal within
abbrev pub declares : ReadModule → Body → (local : ℕ) → Bool
declares reading body local = is_among local (filter_map (declared_by reading) (inside body))

-- the captured locals of a body are those that it uses and doesn't declare
abbrev pub Captures : ReadModule → Body → (captured : List ℕ) → Type 0
Captures reading body captured = (local : ℕ)
    → is_among local captured ≡ (uses reading body local && not (declares reading body local))

-- a node of a module is read well: an expression stands for what it may mean, and a body has its
-- captured locals
abbrev pub IsReadWell : Program → ReadModule → SyntaxNode → Type 0
IsReadWell program reading (AnExpr (the_expr id span kind)) = may_mean program kind (reading.use_of id) ≡ true
IsReadWell program reading (ABody (the_body id has_self generics params vararg result code span)) =
    Captures reading (the_body id has_self generics params vararg result code span) (reading.captured id)
IsReadWell program reading (ABind bind) = ⊤

-- a module is read over the builtins of a program: each node is, and each declaration is that of a
-- local of its own
pub record IsRead (program : Program) (reading : ReadModule) : Type 0 where
  pub nodes : AllByRecursion (IsReadWell program reading) (of_block reading.block)
  pub locals : are_distinct (filter_map (declared_by reading) (of_block reading.block)) ≡ true

-- a read folder: homes are distinct and not 0, requires mean modules of the list and form no cycle,
-- and each module is read
pub record IsReadFolder (program : Program) : Type 0 where
  pub homes : are_distinct (0 ∷ map (λ reading. reading.home) program.modules) ≡ true
  pub listed : (at other : ℕ) → Requires program at other → other < length program.modules
  pub no_cycle : (more at : ℕ) → Leads program more at at → ⊥
  pub readings : AllByRecursion (IsRead program) program.modules
