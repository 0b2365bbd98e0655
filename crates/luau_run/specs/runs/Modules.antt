-- Worked runs of small modules: closures, fields, requires, failures, annotations and libraries.
use Rattle.std.specs.Prelude.{ℕ, if◌then◌else◌, ◌==◌, List, [], ◌∷◌, Some, None, codes}
use Rattle.luau_tree.specs.declared.names.BinOp.TheVariants.{Concat, Add}
use Rattle.luau_tree.specs.Tree.{StatKind, Compound, While, NumFor, GenFor, LocalFunction, Break, no_stats, Expr, no_exprs, no_expr, ExprKind, NilExpr, TrueExpr, StrExpr, FunctionExpr, Index, At, Method, Binary, Field, no_binds}
use Rattle.luau_run.specs.ReadModule.{UseLocal, UseBuiltin, UseLibrary, UseGlobal, ReadModule}
use Rattle.luau_run.specs.Program.{Program}
use Rattle.luau_run.specs.ValueSet.{numbers}
use Rattle.luau_run.specs.runs.Builders.{somewhere, e, num, str, name, library, exprs_of, call_of, table, declared, alone, block_of, body_of, locals, assign, calling, returning, module_of, over, one_module}

-- `local x = 1`, `local function set(a) x = a end`, `set("s")`, `return x`
abbrev pub assigned_by_closure : Program
assigned_by_closure = one_module
    (locals (alone 0) (e 0 num ∷ [])
    ∷ LocalFunction (declared 1) (body_of 0 (alone 2) (assign (name 1) (name 2) ∷ []))
    ∷ calling 3 (name 4) (e 5 str ∷ [])
    ∷ returning (name 6 ∷ []) ∷ [])
    ((1, UseLocal 0) ∷ (2, UseLocal 2) ∷ (4, UseLocal 1) ∷ (6, UseLocal 0) ∷ []) (0 ∷ [])

-- `local t = {p = "s"}`, `t.p = V`, `return t.p`
abbrev pub field_written : ExprKind → Program
field_written written = one_module
    (locals (alone 0) (e 0 (table (Field (codes "p") (e 1 str) ∷ [])) ∷ [])
    ∷ assign (e 2 (Index (name 3) (codes "p"))) (e 4 written)
    ∷ returning (e 5 (Index (name 6) (codes "p")) ∷ []) ∷ [])
    ((3, UseLocal 0) ∷ (6, UseLocal 0) ∷ []) []

-- `local x = nil`, `for i = 1, 1 do x = i end`, `return x`
abbrev pub counted : Program
counted = one_module
    (locals (alone 0) (e 0 NilExpr ∷ [])
    ∷ NumFor (declared 1) (e 1 num) (e 2 num) no_expr (block_of (assign (name 3) (name 4) ∷ []))
    ∷ returning (name 5 ∷ []) ∷ [])
    ((3, UseLocal 0) ∷ (4, UseLocal 1) ∷ (5, UseLocal 0) ∷ []) []

-- `while true do break end`, `return 1`
abbrev pub broken_off : Program
broken_off = one_module (While (e 0 TrueExpr) (block_of (Break ∷ [])) ∷ returning (e 1 num ∷ []) ∷ []) [] []

-- `return require("./b")`
abbrev pub requiring : ReadModule
requiring = record (module_of 1 (returning (e 0 (call_of (name 1) (e 2 (StrExpr (codes "./b")) ∷ [])) ∷ []) ∷ []) ((1, UseGlobal) ∷ []) []) {
  required = λ id. if id == 0 then Some 1 else None;
}

-- that module, where the one that it means is `return "s"`
abbrev pub required : Program
required = over (requiring ∷ module_of 2 (returning (e 0 str ∷ []) ∷ []) [] [] ∷ [])

-- `pcall(function() math.abs("s") end)`
abbrev pub caught_failure : Program
caught_failure = one_module
    (calling 0 (name 1) (e 2 (FunctionExpr (body_of 0 no_binds
    (calling 3 (e 4 (Index (library 5 (codes "math")) (codes "abs"))) (e 6 str ∷ []) ∷ []))) ∷ []) ∷ [])
    ((1, UseBuiltin (codes "pcall")) ∷ (4, UseBuiltin (codes "math.abs")) ∷ (5, UseLibrary) ∷ []) []

-- `local t = table.freeze({})` and a statement, which may use t as its expression 10
abbrev pub frozen_then : StatKind → Program
frozen_then kind = one_module
    (locals (alone 0) (e 0 (call_of (e 1 (Index (library 2 (codes "table")) (codes "freeze"))) (e 3 (table []) ∷ [])) ∷ []) ∷ kind ∷ [])
    ((1, UseBuiltin (codes "table.freeze")) ∷ (2, UseLibrary) ∷ (10, UseLocal 0) ∷ []) []

-- `local t = VALUE` and a statement, which may use t as its expression 10
abbrev pub local_then : ExprKind → StatKind → Program
local_then v kind = one_module (locals (alone 0) (e 0 v ∷ []) ∷ kind ∷ []) ((10, UseLocal 0) ∷ []) []

-- `t.x`
abbrev pub field_of_t : Expr
field_of_t = e 9 (Index (name 10) (codes "x"))

-- `t[1]`
abbrev pub element_of_t : Expr
element_of_t = e 9 (At (name 10) (e 11 num))

-- `for x in t do end`
abbrev pub over_t : StatKind
over_t = GenFor (alone 1) (exprs_of (name 10 ∷ [])) no_stats

-- statements that fail for certain where t is a frozen table, nil, a string or a number, and so ask
-- for nothing
abbrev pub failing : List Program
failing =
    one_module (calling 0 (library 1 (codes "math")) [] ∷ []) ((1, UseLibrary) ∷ []) []
    ∷ frozen_then (assign field_of_t (e 12 num)) ∷ frozen_then (assign element_of_t (e 12 num))
    ∷ local_then NilExpr (assign element_of_t (e 12 num)) ∷ local_then NilExpr (locals (alone 1) (element_of_t ∷ []))
    ∷ local_then NilExpr (locals (alone 1) (e 9 (Binary Concat (name 10) (e 12 str)) ∷ []))
    ∷ local_then NilExpr (Compound element_of_t Add (e 12 num)) ∷ local_then NilExpr (Compound (name 10) Add (e 12 num))
    ∷ local_then NilExpr over_t
    ∷ local_then str (assign field_of_t (e 12 num)) ∷ local_then str (assign element_of_t (e 12 num)) ∷ local_then str (calling 9 (name 10) [])
    ∷ local_then num (locals (alone 1) (field_of_t ∷ [])) ∷ local_then num over_t ∷ []

-- `local function f(x) end`, `f(V)`, where the annotation of `x` says that it is a number
abbrev pub annotated_call : ExprKind → Program
annotated_call argument = over (
    record (module_of 1
    (LocalFunction (declared 0) (body_of 0 (alone 1) []) ∷ calling 0 (name 1) (e 2 argument ∷ []) ∷ [])
    ((1, UseLocal 0) ∷ []) []) { annotated = λ function index. numbers } ∷ [])

-- a module in which `math` is the library, as the expression 2
abbrev pub of_math : StatKind → Program
of_math kind = one_module (kind ∷ []) ((2, UseLibrary) ∷ []) []

-- `math`
abbrev pub math : Expr
math = library 2 (codes "math")

-- `return math.none`
abbrev pub off_library : Program
off_library = of_math (returning (e 0 (Index math (codes "none")) ∷ []))

-- `return math["none"]`
abbrev pub element_off_library : Program
element_off_library = of_math (returning (e 0 (At math (e 3 (StrExpr (codes "none")))) ∷ []))

-- `return math["abs"]`
abbrev pub declared_off_library : Program
declared_off_library = of_math (returning (e 0 (At math (e 3 (StrExpr (codes "abs")))) ∷ []))

-- `return math["no" .. "ne"]`
abbrev pub computed_off_library : Program
computed_off_library =
    of_math (returning (e 0 (At math (e 3 (Binary Concat (e 4 (StrExpr (codes "no"))) (e 5 (StrExpr (codes "ne")))))) ∷ []))

-- `return math:none()`
abbrev pub method_off_library : Program
method_off_library = of_math (returning (e 0 (Method math (codes "none") somewhere no_exprs) ∷ []))

-- `math.none += 1`
abbrev pub compound_off_library : Program
compound_off_library = of_math (Compound (e 0 (Index math (codes "none"))) Add (e 3 num))

-- `local t = math`, `t.none += 1`
abbrev pub compound_off_local : Program
compound_off_local = one_module
    (locals (alone 0) (math ∷ []) ∷ Compound (e 0 (Index (name 10) (codes "none"))) Add (e 3 num) ∷ [])
    ((2, UseLibrary) ∷ (10, UseLocal 0) ∷ []) []

-- `local t = LIBRARY`, `return t.NAME`
abbrev pub off_table : (of field : List ℕ) → Program
off_table of field = one_module
    (locals (alone 0) (library 0 of ∷ []) ∷ returning (e 1 (Index (name 2) field) ∷ []) ∷ [])
    ((0, UseLibrary) ∷ (2, UseLocal 0) ∷ []) []
