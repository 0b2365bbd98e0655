-- Worked rows on loops and on functions that see a local of the module. `x` is the local 1, as in the rows on functions.
use Rattle.std.specs.Prelude.{ℕ, List, [], ◌∷◌, None}
use Rattle.luau_tree.specs.declared.names.BinOp.TheVariants.{Or, And, NotEqual, Equal}
use Rattle.luau_tree.specs.Tree.{Expr, NilExpr, FunctionExpr, Binary, StatKind, While, Repeat, NumFor, GenFor, FunctionStat, LocalFunction, no_expr, no_stats, no_binds}
use Rattle.luau_run.specs.ReadModule.{UseGlobal}
use Rattle.luau_run.specs.runs.Builders.{e, num, str, name, exprs_of, block_of, body_of, declared, alone, locals, assign, returning, if_then}
use Rattle.type_normal.specs.Kinds.{unknown}
use Rattle.report_rules.specs.Rules.{Rules}
use Rattle.report_rules.specs.rows.Builders.{rules_of, rules_with, call_at, x_bind, x_binds}
use Rattle.report_rules.specs.rows.Functions.{outer_uses, abs_x, c}

-- `for x = 1, 2 do STATEMENTS end`, where x is loose or not
abbrev pub counting_x : (loose : List ℕ) → List StatKind → Rules
counting_x loose kinds =
    rules_with (NumFor (x_bind 1) (e 30 num) (e 31 num) no_expr (block_of kinds) ∷ []) outer_uses loose (λ index. unknown)

-- `local function g() x = "s" end`
abbrev pub setting_x : StatKind
setting_x = LocalFunction (declared 0) (body_of 0 no_binds (assign (name 20) (e 22 str) ∷ []))

-- `for x in u do STATEMENTS end`
abbrev pub going_over : List StatKind → Rules
going_over kinds = rules_of (GenFor (x_binds 1) (exprs_of (name 33 ∷ [])) (block_of kinds) ∷ []) ((33, UseGlobal) ∷ outer_uses)

-- `for i = 1, 3 do STATEMENTS end`
abbrev pub counted_three : List StatKind → StatKind
counted_three kinds = NumFor (declared 2) (e 40 num) (e 41 num) no_expr (block_of kinds)

-- `local x = u`, `while x do end`, `math.abs(x)`
abbrev pub while_x : Rules
while_x = rules_of (locals (x_binds 1) (name 33 ∷ []) ∷ While (name 9) no_stats ∷ abs_x ∷ []) ((33, UseGlobal) ∷ outer_uses)

-- `repeat local x = u until x == nil and math.abs(x)`
abbrev pub nil_in_until : Rules
nil_in_until =
    rules_of
    (Repeat (block_of (locals (x_binds 1) (name 33 ∷ []) ∷ [])) (e 40 (Binary And (e 41 (Binary Equal (name 9) (e 42 NilExpr))) (call_at 0 1 (name 2 ∷ [])))) ∷ [])
    ((33, UseGlobal) ∷ outer_uses)

-- `repeat math.abs(x) if c then STATEMENT end until string.lower(x)`
abbrev pub left_in_turn : StatKind → StatKind
left_in_turn statement = Repeat (block_of (abs_x ∷ if_then c (statement ∷ []) ∷ [])) (call_at 3 4 (name 5 ∷ []))

-- `while string.lower(x) do STATEMENTS end`
abbrev pub while_lower : List StatKind → StatKind
while_lower kinds = While (call_at 3 4 (name 5 ∷ [])) (block_of kinds)

-- `local x = VALUE`, `local f = function() STATEMENT end`
abbrev pub seen_by_literal : Expr → StatKind → Rules
seen_by_literal value statement =
    rules_of (locals (x_binds 1) (value ∷ []) ∷ locals (alone 0) (e 50 (FunctionExpr (body_of 0 no_binds (statement ∷ []))) ∷ []) ∷ []) outer_uses

-- `local x = u`, `function x() end`, `repeat math.abs(x) x = 1 until c`
abbrev pub function_before_repeat : Rules
function_before_repeat =
    rules_of
    (locals (x_binds 1) (name 33 ∷ []) ∷ FunctionStat (name 13) None (body_of 0 no_binds [])
    ∷ Repeat (block_of (abs_x ∷ assign (name 20) (e 22 num) ∷ [])) c ∷ [])
    ((33, UseGlobal) ∷ outer_uses)

-- `local x = u`, `while x == nil do math.abs(x) end`
abbrev pub while_nil : Rules
while_nil =
    rules_of (locals (x_binds 1) (name 33 ∷ []) ∷ While (e 41 (Binary Equal (name 9) (e 42 NilExpr))) (block_of (abs_x ∷ [])) ∷ [])
    ((33, UseGlobal) ∷ outer_uses)

-- `local x = u`, `return x ~= nil or math.abs(x)`
abbrev pub nil_or_abs : Rules
nil_or_abs =
    rules_of
    (locals (x_binds 1) (name 33 ∷ []) ∷ returning (e 40 (Binary Or (e 41 (Binary NotEqual (name 9) (e 42 NilExpr))) (call_at 0 1 (name 2 ∷ []))) ∷ []) ∷ [])
    ((33, UseGlobal) ∷ outer_uses)
