-- What worked runs are built of: declarations, syntax without spans, and modules with the uses of
-- their names.
use Rattle.std.specs.Prelude.{ℕ, ◌==◌, false, true, List, [], ◌∷◌, Option, Some, None, codes}
use Rattle.std.specs.Option.{option_map}
use Rattle.std.specs.List.{find}
use Rattle.luau_values.specs.Value.{Tab}
use Rattle.luau_tree.specs.declared.position.Span.{Span}
use Rattle.luau_tree.specs.Tree.{Block, no_stats, more_stats, the_stat, StatKind, Assign, CallStat, If, Local, Return, no_arms, more_arms, no_block, Expr, the_expr, Exprs, no_exprs, more_exprs, ExprKind, NumberExpr, StrExpr, NameExpr, Call, TableExpr, Item, Items, no_items, more_items, Body, the_body, no_varargs, Bind, the_bind, Binds, no_binds, more_binds, no_gens, no_type}
use Rattle.luau_run.specs.ValueSet.{ValueSet, everything, numbers}
use Rattle.luau_run.specs.Signature.{Declared}
use Rattle.luau_run.specs.ReadModule.{Use, ReadModule}
use Rattle.luau_run.specs.Program.{Program}

-- tables
abbrev pub tables : ValueSet
tables heap (Tab address) = true
tables heap _ = false

-- `@checked @quiet declare function math.abs(number): number`
abbrev pub abs : Declared
abs = record {
  path = codes "math.abs";
  signature = record { params = numbers ∷ []; rest = None; results = numbers ∷ []; more = None; checked = true; quiet = true };
}

-- `@checked @quiet declare function table.freeze(table): table`
abbrev pub freeze : Declared
freeze = record {
  path = codes "table.freeze";
  signature = record { params = tables ∷ []; rest = None; results = tables ∷ []; more = None; checked = true; quiet = true };
}

-- `declare function pcall(...unknown): (...unknown)`
abbrev pub pcall : Declared
pcall = record {
  path = codes "pcall";
  signature = record { params = []; rest = Some everything; results = []; more = Some everything; checked = false; quiet = false };
}

-- where what is built stands, which plays no part in a run
abbrev pub somewhere : Span
somewhere = record { start = 0; end = 0 }

-- an expression with a number
abbrev pub e : ℕ → ExprKind → Expr
e id kind = the_expr id somewhere kind

-- `1`
abbrev pub num : ExprKind
num = NumberExpr (codes "1")

-- `"s"`
abbrev pub str : ExprKind
str = StrExpr (codes "s")

-- a name whose bytes play no part in a run, as those of a local
abbrev pub name : ℕ → Expr
name id = e id (NameExpr [])

-- a library's name
abbrev pub library : ℕ → List ℕ → Expr
library id bytes = e id (NameExpr bytes)

-- a list of expressions
abbrev pub exprs_of : List Expr → Exprs
exprs_of [] = no_exprs
exprs_of (x ∷ xs) = more_exprs x (exprs_of xs)

-- a call with arguments
abbrev pub call_of : Expr → List Expr → ExprKind
call_of callee args = Call callee (exprs_of args)

-- the items of a table
abbrev pub items_of : List Item → Items
items_of [] = no_items
items_of (x ∷ xs) = more_items x (items_of xs)

-- a table with items
abbrev pub table : List Item → ExprKind
table items = TableExpr (items_of items)

-- a name that is declared; here its offset is the number of its local
abbrev pub declared : ℕ → Bind
declared local = the_bind [] (record { start = local; end = local }) no_type

-- one name that is declared
abbrev pub alone : ℕ → Binds
alone local = more_binds (declared local) no_binds

-- two names that are declared
abbrev pub both : (first second : ℕ) → Binds
both first second = more_binds (declared first) (alone second)

-- a list of statements
abbrev pub block_of : List StatKind → Block
block_of [] = no_stats
block_of (kind ∷ kinds) = more_stats (the_stat somewhere kind) (block_of kinds)

-- a body with a number, parameters and statements
abbrev pub body_of : ℕ → Binds → List StatKind → Body
body_of id params kinds = the_body id false no_gens params no_varargs no_type (block_of kinds) somewhere

-- `local NAMES = VALUES`
abbrev pub locals : Binds → List Expr → StatKind
locals binds es = Local binds (exprs_of es)

-- `TARGET = VALUE`
abbrev pub assign : Expr → Expr → StatKind
assign to v = Assign (exprs_of (to ∷ [])) (exprs_of (v ∷ []))

-- a call as a statement
abbrev pub calling : ℕ → Expr → List Expr → StatKind
calling id callee args = CallStat (e id (call_of callee args))

-- `return VALUES`
abbrev pub returning : List Expr → StatKind
returning es = Return (exprs_of es)

-- `if COND then STATEMENTS end`
abbrev pub if_then : Expr → List StatKind → StatKind
if_then cond kinds = If (more_arms cond (block_of kinds) no_arms) no_block

-- what the names stand for, by the numbers of their expressions
abbrev pub stands_for : List (ℕ × Use) → ℕ → Option Use
stands_for uses id = option_map (λ u. u.1) (find (λ u. u.0 == id) uses)

-- a module with statements, names, and what each of its function literals captures
abbrev pub module_of : (home : ℕ) → List StatKind → List (ℕ × Use) → List ℕ → ReadModule
module_of home kinds uses captured = record {
  home = home;
  block = block_of kinds;
  use_of = stands_for uses;
  local_at = λ offset. offset;
  captured = λ function. captured;
  annotated = λ function index. everything;
  required = λ id. None;
}

-- modules over three builtins, of which two make libraries: `math` has the first table, `table` the
-- second
abbrev pub over : List ReadModule → Program
over modules = record { modules = modules; builtins = abs ∷ pcall ∷ freeze ∷ [] }

-- one module over these builtins
abbrev pub one_module : List StatKind → List (ℕ × Use) → List ℕ → Program
one_module kinds uses captured = over (module_of 1 kinds uses captured ∷ [])
