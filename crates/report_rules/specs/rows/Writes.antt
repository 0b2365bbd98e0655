-- Worked rows on what fails for certain without asking anything: a library that is called, elements, compounds.
use Rattle.std.specs.Prelude.{[], ◌∷◌, Some, None, codes}
use Rattle.luau_tree.specs.declared.names.BinOp.TheVariants.{Add, Concat, Less}
use Rattle.luau_tree.specs.Tree.{ExprKind, NilExpr, StrExpr, Index, At, Binary, Field, Assign, Compound, CallStat, FunctionStat, StatKind, no_binds}
use Rattle.luau_run.specs.ReadModule.{UseLocal, UseBuiltin, UseLibrary, UseGlobal}
use Rattle.luau_run.specs.runs.Builders.{e, num, str, name, exprs_of, both, alone, table, call_of, body_of, locals, assign, returning}
use Rattle.report_rules.specs.Rules.{Rules}
use Rattle.report_rules.specs.rows.Builders.{rules_of, call_at}
use Rattle.report_rules.specs.rows.Calls.{abs_use, local_then}

-- `math()`
abbrev pub library_called : Rules
library_called = rules_of (CallStat (call_at 0 1 []) ∷ []) ((1, UseLibrary) ∷ [])

-- `local x = VALUE`, `x[1] = 2`
abbrev pub element_written : ExprKind → Rules
element_written value =
    local_then value (assign (e 10 (At (name 11) (e 12 num))) (e 13 num)) ((11, UseLocal 0) ∷ (2, UseBuiltin (codes "table.freeze")) ∷ [])

-- `local x = nil`, `local y = x[1]`
abbrev pub element_read : Rules
element_read = local_then NilExpr (locals (alone 1) (e 10 (At (name 11) (e 12 num)) ∷ [])) ((11, UseLocal 0) ∷ [])

-- `local x = nil`, `local y = x .. "s"`
abbrev pub concatenated : Rules
concatenated = local_then NilExpr (locals (alone 1) (e 10 (Binary Concat (name 11) (e 12 str)) ∷ [])) ((11, UseLocal 0) ∷ [])

-- `local x = nil`, `x[1] += 2`
abbrev pub element_added : Rules
element_added = local_then NilExpr (Compound (e 10 (At (name 11) (e 12 num))) Add (e 13 num)) ((11, UseLocal 0) ∷ [])

-- `{p = VALUE}`, with the number 3 for the value
abbrev pub with_p : ExprKind → ExprKind
with_p value = table (Field (codes "p") (e 3 value) ∷ [])

-- `local x = {p = 1}`, `x.p += nil`
abbrev pub nil_added : Rules
nil_added = local_then (with_p num) (Compound (e 10 (Index (name 11) (codes "p"))) Add (e 12 NilExpr)) ((11, UseLocal 0) ∷ [])

-- `g += nil` with a global g
abbrev pub global_added : Rules
global_added = rules_of (Compound (name 10) Add (e 12 NilExpr) ∷ []) ((10, UseGlobal) ∷ [])

-- `local x = nil`, `x()`
abbrev pub local_called : Rules
local_called = local_then NilExpr (CallStat (e 10 (call_of (name 11) []))) ((11, UseLocal 0) ∷ [])

-- `local a, b = 1, VALUE`, `return a < b`
abbrev pub ordered : ExprKind → Rules
ordered value =
    rules_of (locals (both 0 1) (e 0 num ∷ e 1 value ∷ []) ∷ returning (e 2 (Binary Less (name 3) (name 4)) ∷ []) ∷ [])
    ((3, UseLocal 0) ∷ (4, UseLocal 1) ∷ (5, UseGlobal) ∷ [])

-- `f()` with a global f
abbrev pub unknown_call : ExprKind
unknown_call = call_of (name 5) []

-- `local x = a.b.c` with a global a
abbrev pub global_read : Rules
global_read = rules_of (locals (alone 0) (e 0 (Index (e 1 (Index (name 2) (codes "b"))) (codes "c")) ∷ []) ∷ []) ((2, UseGlobal) ∷ [])

-- `local x = {p = 1}`, STATEMENT, `math.abs(x.p)`, where x is the name 13
abbrev pub then_abs_p : StatKind → Rules
then_abs_p between =
    rules_of
    (locals (alone 0) (e 0 (with_p num) ∷ []) ∷ between ∷ CallStat (call_at 20 21 (e 22 (Index (name 23) (codes "p")) ∷ [])) ∷ [])
    ((13, UseLocal 0) ∷ abs_use 21 ∷ (23, UseLocal 0) ∷ [])

-- `function x.p() end`, and `function x:p() end`
abbrev pub p_is_function : StatKind
p_is_function = FunctionStat (e 12 (Index (name 13) (codes "p"))) None (body_of 0 no_binds [])

abbrev pub p_is_method : StatKind
p_is_method = FunctionStat (name 13) (Some (codes "p")) (body_of 0 no_binds [])

-- `x.p = "s"`, `x["p"] = "s"`, `x[g] = "s"`
abbrev pub p_is_s : StatKind
p_is_s = assign (e 12 (Index (name 13) (codes "p"))) (e 14 str)

abbrev pub string_key_is_s : StatKind
string_key_is_s = assign (e 12 (At (name 13) (e 15 (StrExpr (codes "p"))))) (e 14 str)

abbrev pub element_is_s : StatKind
element_is_s = assign (e 12 (At (name 13) (name 15))) (e 14 str)

-- `x.p, g = "s", 1`
abbrev pub p_is_s_beside : StatKind
p_is_s_beside = Assign (exprs_of (e 12 (Index (name 13) (codes "p")) ∷ name 16 ∷ [])) (exprs_of (e 14 str ∷ e 17 num ∷ []))
