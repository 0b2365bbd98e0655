-- Worked runs of calls, assignments and statements that no loop is in, and of modules.
use Rattle.std.specs.Prelude.{true, false, if◌then◌else◌, ◌==◌, ◌||◌, [], ◌∷◌, Some, None, codes}
use Rattle.luau_tree.specs.declared.names.BinOp.TheVariants.{Add, Equal}
use Rattle.luau_tree.specs.Tree.{Assign, Compound, Do, If, FunctionStat, LocalFunction, TypeAlias, TypeFunction, no_arms, more_arms, no_stats, a_block, Expr, NilExpr, Vararg, FunctionExpr, Index, At, Method, Binary, Field, Body, the_body, no_varargs, varargs, no_binds, no_gens, no_type, TypeSyntax, the_type, NilType}
use Rattle.luau_run.specs.ReadModule.{UseLocal, UseGlobal}
use Rattle.luau_run.specs.Program.{Program}
use Rattle.luau_run.specs.runs.Builders.{somewhere, e, num, str, name, exprs_of, call_of, table, declared, alone, both, block_of, body_of, locals, assign, returning, module_of, over, one_module}

-- `local t = {p = 1, m = function(self, a) return self.p, a end}`, `return t:m("s")`
abbrev pub method_called : Program
method_called = one_module
    (locals (alone 0) (e 0 (table (Field (codes "p") (e 1 num)
    ∷ Field (codes "m") (e 2 (FunctionExpr (body_of 0 (both 1 2) (returning (e 3 (Index (name 4) (codes "p")) ∷ name 5 ∷ []) ∷ [])))) ∷ [])) ∷ [])
    ∷ returning (e 6 (Method (name 7) (codes "m") somewhere (exprs_of (e 8 str ∷ []))) ∷ []) ∷ [])
    ((4, UseLocal 1) ∷ (5, UseLocal 2) ∷ (7, UseLocal 0) ∷ []) []

-- `local t = {}`, `function t.f() return "s" end`, `return t.f()`
abbrev pub function_on_field : Program
function_on_field = one_module
    (locals (alone 0) (e 0 (table []) ∷ [])
    ∷ FunctionStat (e 1 (Index (name 2) (codes "f"))) None (body_of 0 no_binds (returning (e 3 str ∷ []) ∷ []))
    ∷ returning (e 4 (call_of (e 5 (Index (name 6) (codes "f"))) []) ∷ []) ∷ [])
    ((2, UseLocal 0) ∷ (6, UseLocal 0) ∷ []) []

-- `local t = {}`, `function t:m() return self end`, `return t == t:m()`
abbrev pub function_on_method : Program
function_on_method = one_module
    (locals (alone 0) (e 0 (table []) ∷ [])
    ∷ FunctionStat (name 1) (Some (codes "m")) (the_body 0 true no_gens (alone 1) no_varargs no_type (block_of (returning (name 2 ∷ []) ∷ [])) somewhere)
    ∷ returning (e 3 (Binary Equal (name 4) (e 5 (Method (name 6) (codes "m") somewhere (exprs_of [])))) ∷ []) ∷ [])
    ((1, UseLocal 0) ∷ (2, UseLocal 1) ∷ (4, UseLocal 0) ∷ (6, UseLocal 0) ∷ []) []

-- `local function f(a, ...) return ... end`
abbrev pub further_given : Body
further_given = the_body 0 false no_gens (alone 1) (varargs no_type) no_type (block_of (returning (e 0 Vararg ∷ []) ∷ [])) somewhere

-- that function, and `return EXPRESSION` with its call `f(nil, 1, "s")`
abbrev pub expanding : (Expr → Expr) → Program
expanding form = one_module
    (LocalFunction (declared 0) further_given
    ∷ returning (form (e 2 (call_of (name 3) (e 4 NilExpr ∷ e 5 num ∷ e 6 str ∷ []))) ∷ []) ∷ [])
    ((3, UseLocal 0) ∷ []) []

-- that function, and `return f(nil, 1, "s"), "s"`
abbrev pub not_expanding : Program
not_expanding = one_module
    (LocalFunction (declared 0) further_given
    ∷ returning (e 2 (call_of (name 3) (e 4 NilExpr ∷ e 5 num ∷ e 6 str ∷ [])) ∷ e 7 str ∷ []) ∷ [])
    ((3, UseLocal 0) ∷ []) []

-- `nil`, as a type
abbrev pub nil_type : TypeSyntax
nil_type = the_type somewhere NilType

-- `local a, b = 1, "s"`, `a, b = b, a`, `return a, b`
abbrev pub swapped : Program
swapped = one_module
    (locals (both 0 1) (e 0 num ∷ e 1 str ∷ [])
    ∷ Assign (exprs_of (name 2 ∷ name 3 ∷ [])) (exprs_of (name 4 ∷ name 5 ∷ []))
    ∷ returning (name 6 ∷ name 7 ∷ []) ∷ [])
    ((2, UseLocal 0) ∷ (3, UseLocal 1) ∷ (4, UseLocal 1) ∷ (5, UseLocal 0) ∷ (6, UseLocal 0) ∷ (7, UseLocal 1) ∷ []) []

-- `local t = {p = 1}`, `t.p += 1`, `return t.p`
abbrev pub compound_field : Program
compound_field = one_module
    (locals (alone 0) (e 0 (table (Field (codes "p") (e 1 num) ∷ [])) ∷ [])
    ∷ Compound (e 2 (Index (name 3) (codes "p"))) Add (e 4 num)
    ∷ returning (e 5 (Index (name 6) (codes "p")) ∷ []) ∷ [])
    ((3, UseLocal 0) ∷ (6, UseLocal 0) ∷ []) []

-- `local t = {}`, `t[1] = "s"`, `return t[1]`
abbrev pub element_written : Program
element_written = one_module
    (locals (alone 0) (e 0 (table []) ∷ [])
    ∷ assign (e 1 (At (name 2) (e 3 num))) (e 4 str)
    ∷ returning (e 5 (At (name 6) (e 7 num)) ∷ []) ∷ [])
    ((2, UseLocal 0) ∷ (6, UseLocal 0) ∷ []) []

-- `g = 1`, `return g` with a global
abbrev pub global_written : Program
global_written = one_module (assign (name 0) (e 1 num) ∷ returning (name 2 ∷ []) ∷ []) ((0, UseGlobal) ∷ (2, UseGlobal) ∷ []) []

-- `do return "s" end`, `return 1`
abbrev pub returned_from_do : Program
returned_from_do = one_module (Do (block_of (returning (e 0 str ∷ []) ∷ [])) ∷ returning (e 1 num ∷ []) ∷ []) [] []

-- `if nil then elseif 1 then return "s" else end`, `return 1`
abbrev pub second_arm : Program
second_arm = one_module
    (If (more_arms (e 0 NilExpr) no_stats (more_arms (e 1 num) (block_of (returning (e 2 str ∷ []) ∷ [])) no_arms)) (a_block no_stats)
    ∷ returning (e 3 num ∷ []) ∷ []) [] []

-- `type T = nil`, `type function F() end`, `return "s"`
abbrev pub types_passed : Program
types_passed = one_module
    (TypeAlias false (codes "T") no_gens nil_type ∷ TypeFunction false (codes "F") (body_of 0 no_binds []) ∷ returning (e 0 str ∷ []) ∷ []) [] []

-- `return require("s") == require("s")`, where the module that they mean is `return {}`
abbrev pub required_twice : Program
required_twice = over (
    record (module_of 1 (returning (e 0 (Binary Equal (e 1 (call_of (name 2) (e 3 str ∷ []))) (e 4 (call_of (name 5) (e 6 str ∷ [])))) ∷ []) ∷ [])
    ((2, UseGlobal) ∷ (5, UseGlobal) ∷ []) []) { required = λ id. if (id == 1) || (id == 4) then Some 1 else None }
    ∷ module_of 2 (returning (e 0 (table []) ∷ []) ∷ []) [] [] ∷ [])
