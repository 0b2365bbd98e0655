-- Worked runs of operators, and of expressions that give a value at once.
use Rattle.std.specs.Prelude.{ℕ, true, List, [], ◌∷◌, None, codes}
use Rattle.luau_tree.specs.declared.names.BinOp.{BinOp}
use Rattle.luau_tree.specs.declared.names.BinOp.TheVariants.{Or, And, Equal}
use Rattle.luau_tree.specs.declared.names.UnOp.TheVariants.{Not}
use Rattle.luau_tree.specs.Tree.{LocalFunction, ExprKind, NilExpr, Index, At, Unary, Binary, IfElse, no_choices, more_choices, Interp, Keyed, Plain, no_binds, StrExpr}
use Rattle.luau_run.specs.Signature.{Declared}
use Rattle.luau_run.specs.ReadModule.{Use, UseLocal, UseBuiltin, UseLibrary}
use Rattle.luau_run.specs.Program.{Program}
use Rattle.luau_run.specs.ValueSet.{everything}
use Rattle.luau_run.specs.runs.Builders.{pcall, e, num, str, name, library, exprs_of, call_of, table, declared, alone, body_of, locals, returning, module_of, one_module}

-- `return EXPRESSION`
abbrev pub giving : ExprKind → Program
giving kind = one_module (returning (e 0 kind ∷ []) ∷ []) [] []

-- `return LEFT OP RIGHT`
abbrev pub applied : BinOp → (left right : ExprKind) → Program
applied op left right = giving (Binary op (e 1 left) (e 2 right))

-- `return nil and 1, nil or "s", 1 and "s", not nil, nil == nil, if nil then 1 else "s"`
abbrev pub operators : Program
operators = one_module
    (returning (e 0 (Binary And (e 1 NilExpr) (e 2 num)) ∷ e 3 (Binary Or (e 4 NilExpr) (e 5 str)) ∷ e 6 (Binary And (e 7 num) (e 8 str))
    ∷ e 9 (Unary Not (e 10 NilExpr)) ∷ e 11 (Binary Equal (e 12 NilExpr) (e 13 NilExpr))
    ∷ e 14 (IfElse (more_choices (e 15 NilExpr) (e 16 num) no_choices) (e 17 str)) ∷ []) ∷ []) [] []

-- `local function f() end`, `return f == f`
abbrev pub closure_and_itself : Program
closure_and_itself = one_module
    (LocalFunction (declared 0) (body_of 0 no_binds []) ∷ returning (e 0 (Binary Equal (name 1) (name 2)) ∷ []) ∷ [])
    ((1, UseLocal 0) ∷ (2, UseLocal 0) ∷ []) []

-- "return `a{1}b{"s"}`", an interpolated string
abbrev pub interpolated : Program
interpolated = giving (Interp (codes "a" ∷ codes "b" ∷ [] ∷ []) (exprs_of (e 1 num ∷ e 2 str ∷ [])))

-- `return math["abs"]`
abbrev pub library_element : Program
library_element = one_module (returning (e 0 (At (library 1 (codes "math")) (e 2 (StrExpr (codes "abs")))) ∷ []) ∷ []) ((1, UseLibrary) ∷ []) []

-- `local t = {["p"] = "s", [1] = 1, 1}`, `return t.p`
abbrev pub keyed_items : Program
keyed_items = one_module
    (locals (alone 0) (e 0 (table (Keyed (e 1 (StrExpr (codes "p"))) (e 2 str) ∷ Keyed (e 3 num) (e 4 num) ∷ Plain (e 7 num) ∷ [])) ∷ [])
    ∷ returning (e 5 (Index (name 6) (codes "p")) ∷ []) ∷ [])
    ((6, UseLocal 0) ∷ []) []

-- `return table.freeze(table.freeze({})) == nil`
abbrev pub frozen_twice : Program
frozen_twice = one_module
    (returning (e 0 (Binary Equal (e 1 (call_of (name 2) (e 3 (call_of (name 4) (e 5 (table []) ∷ [])) ∷ []))) (e 6 NilExpr)) ∷ []) ∷ [])
    ((2, UseBuiltin (codes "table.freeze")) ∷ (4, UseBuiltin (codes "table.freeze")) ∷ []) []

-- a builtin of one argument that gives one value, both of any type
abbrev pub any_builtin : List ℕ → Declared
any_builtin path = record {
  path = path;
  signature = record { params = everything ∷ []; rest = None; results = everything ∷ []; more = None; checked = true; quiet = true };
}

-- `return EXPRESSION` over `type`, `string.len` and `pcall`
abbrev pub with_type : ExprKind → List (ℕ × Use) → Program
with_type kind uses = record {
  modules = module_of 1 (returning (e 0 kind ∷ []) ∷ []) uses [] ∷ [];
  builtins = any_builtin (codes "type") ∷ any_builtin (codes "string.len") ∷ pcall ∷ [];
}

-- `return type(ARGUMENT)`, where the name 3 stands for `pcall`
abbrev pub type_of : ExprKind → Program
type_of argument = with_type (call_of (name 1) (e 2 argument ∷ [])) ((1, UseBuiltin (codes "type")) ∷ (3, UseBuiltin (codes "pcall")) ∷ [])

-- `return ("s").NAME`
abbrev pub field_of_string : List ℕ → Program
field_of_string field = with_type (Index (e 1 str) field) []
