-- Worked rows on code without loops and functions: values of locals, branches, literals and what is declared. `x` is the local 1, as
-- in the rows on functions, and 33 a global u.
use Rattle.std.specs.Prelude.{[], ◌∷◌, None, List, codes}
use Rattle.luau_tree.specs.declared.names.BinOp.TheVariants.{Add}
use Rattle.luau_tree.specs.Tree.{NilExpr, NameExpr, FunctionExpr, Paren, Binary, StatKind, Compound, CallStat, LocalFunction, no_exprs, no_binds, Local}
use Rattle.luau_run.specs.ReadModule.{UseLocal, UseBuiltin, UseGlobal}
use Rattle.luau_run.specs.runs.Builders.{e, num, str, name, call_of, body_of, declared, locals, assign, returning, if_then}
use Rattle.type_normal.specs.Operations.{union}
use Rattle.type_normal.specs.Kinds.{nil_type, string_type}
use Rattle.report_rules.specs.Rules.{TypedBuiltin, Rules}
use Rattle.report_rules.specs.rows.Builders.{checked_function, rules_of, call_at, x_binds}
use Rattle.report_rules.specs.rows.Calls.{abs_use}
use Rattle.report_rules.specs.rows.Functions.{outer_uses, abs_x}

-- a module of no statements
abbrev pub empty : Rules
empty = rules_of [] []

-- `local x = u`, statements
abbrev pub unknown_x : List StatKind → Rules
unknown_x kinds = rules_of (locals (x_binds 1) (name 33 ∷ []) ∷ kinds) ((33, UseGlobal) ∷ (20, UseLocal 1) ∷ outer_uses)

-- `local x`, `math.abs(x)`
abbrev pub not_given_x : Rules
not_given_x = rules_of (Local (x_binds 1) no_exprs ∷ abs_x ∷ []) outer_uses

-- `math.abs(1)`, `math.abs(nil)`
abbrev pub abs_twice : Rules
abs_twice =
    rules_of (CallStat (call_at 0 1 (e 2 num ∷ [])) ∷ CallStat (call_at 3 4 (e 5 NilExpr ∷ [])) ∷ []) (abs_use 1 ∷ abs_use 4 ∷ [])

-- `pcall(function() math.abs("s") end)`
abbrev pub in_literal : Rules
in_literal =
    rules_of (CallStat (call_at 0 1 (e 2 (FunctionExpr (body_of 0 no_binds (CallStat (call_at 3 4 (e 5 str ∷ [])) ∷ []))) ∷ [])) ∷ [])
    ((1, UseBuiltin (codes "pcall")) ∷ abs_use 4 ∷ [])

-- `(function(x) math.abs(x) end)("s")`
abbrev pub literal_called : Rules
literal_called =
    rules_of (CallStat (e 30 (call_of (e 31 (Paren (e 32 (FunctionExpr (body_of 0 (x_binds 1) (abs_x ∷ [])))))) (e 34 str ∷ []))) ∷ []) outer_uses

-- a builtin f of strings or nil
abbrev pub optional : TypedBuiltin
optional = checked_function (codes "f") (union string_type nil_type ∷ []) None nil_type

-- `f(1)`, `f()` over it
abbrev pub optional_called : Rules
optional_called =
    record (rules_of (CallStat (call_at 0 1 (e 2 num ∷ [])) ∷ CallStat (call_at 3 4 []) ∷ []) ((1, UseBuiltin (codes "f")) ∷ (4, UseBuiltin (codes "f")) ∷ [])) {
      table = optional ∷ [];
    }

-- `local x = "s"`, `if c then x = 1 STATEMENTS end`, `math.abs(x)`
abbrev pub sometimes_number : List StatKind → Rules
sometimes_number kinds =
    rules_of
    (locals (x_binds 1) (e 30 str ∷ []) ∷ if_then (name 6) (assign (e 20 (NameExpr (codes "x"))) (e 21 num) ∷ kinds) ∷ abs_x ∷ [])
    ((20, UseLocal 1) ∷ outer_uses)

-- `local x = table.freeze()`, statements
abbrev pub after_failure : List StatKind → Rules
after_failure kinds = rules_of (locals (x_binds 1) (call_at 30 31 [] ∷ []) ∷ kinds) ((31, UseBuiltin (codes "table.freeze")) ∷ outer_uses)

-- `local function f() return f + 1 end`
abbrev pub own_name_added : Rules
own_name_added =
    rules_of (LocalFunction (declared 0) (body_of 0 no_binds (returning (e 0 (Binary Add (name 1) (e 2 num)) ∷ []) ∷ [])) ∷ []) ((1, UseLocal 0) ∷ [])

-- `x += 1`
abbrev pub x_added : StatKind
x_added = Compound (name 20) Add (e 21 num)
