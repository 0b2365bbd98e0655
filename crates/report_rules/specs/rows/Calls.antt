-- Worked rows on calls, operators and writes. Expressions are numbered as they are written here.
use Rattle.std.specs.Prelude.{ℕ, List, [], ◌∷◌, ◌++◌, codes}
use Rattle.luau_tree.specs.declared.names.BinOp.TheVariants.{Less, Add}
use Rattle.luau_tree.specs.declared.names.UnOp.TheVariants.{Minus, Length}
use Rattle.luau_tree.specs.Tree.{ExprKind, Expr, NilExpr, Compound, NameExpr, Index, Binary, TableExpr, Field, CallStat, StatKind, Assign, NumFor, GenFor, Paren, Unary, Method, no_stats, no_expr, no_items}
use Rattle.luau_run.specs.ReadModule.{Use, UseLocal, UseBuiltin, UseGlobal}
use Rattle.luau_run.specs.runs.Builders.{somewhere, e, num, str, name, exprs_of, table, call_of, declared, alone, locals, assign, returning}
use Rattle.report_rules.specs.Rules.{Rules}
use Rattle.report_rules.specs.rows.Builders.{rules_of, call_at, x_binds}

abbrev pub abs_use : ℕ → ℕ × Use
abs_use id = (id, UseBuiltin (codes "math.abs"))

-- `math.abs(LITERAL)`
abbrev pub abs_of : ExprKind → Rules
abs_of literal = rules_of (CallStat (call_at 0 1 (e 2 literal ∷ [])) ∷ []) (abs_use 1 ∷ [])

-- `math.abs()`
abbrev pub abs_of_none : Rules
abs_of_none = rules_of (CallStat (call_at 0 1 []) ∷ []) (abs_use 1 ∷ [])

-- `math.abs(f())` with a global f
abbrev pub abs_of_call : Rules
abs_of_call = rules_of (CallStat (call_at 0 1 (call_at 2 3 [] ∷ [])) ∷ []) (abs_use 1 ∷ (3, UseGlobal) ∷ [])

-- `PATH(ARGUMENT)`, where the argument is made of the call `print()`
abbrev pub of_print : List ℕ → (Expr → Expr) → Rules
of_print path argument =
    rules_of (CallStat (call_at 0 1 (argument (call_at 2 3 []) ∷ [])) ∷ []) ((1, UseBuiltin path) ∷ (3, UseBuiltin (codes "print")) ∷ [])

-- an expression in parentheses
abbrev pub in_parentheses : Expr → Expr
in_parentheses inner = e 4 (Paren inner)

-- `math.clamp("s")`
abbrev pub clamp_of_one : Rules
clamp_of_one = rules_of (CallStat (call_at 0 1 (e 2 str ∷ [])) ∷ []) ((1, UseBuiltin (codes "math.clamp")) ∷ [])

-- `return 1 < "s"`
abbrev pub less : Rules
less = rules_of (returning (e 0 (Binary Less (e 1 num) (e 2 str)) ∷ []) ∷ []) []

-- `local x = VALUE`, then a statement
abbrev pub local_then : ExprKind → StatKind → List (ℕ × Use) → Rules
local_then value then_ uses = rules_of (locals (x_binds 0) (e 0 value ∷ []) ∷ then_ ∷ []) uses

-- `local x = VALUE`, `x.p = 1`
abbrev pub field_written : ExprKind → Rules
field_written value = local_then value (assign (e 10 (Index (name 11) (codes "p"))) (e 12 num)) ((11, UseLocal 0) ∷ (2, UseBuiltin (codes "table.freeze")) ∷ [])

-- `table.freeze({})`
abbrev pub frozen_table : ExprKind
frozen_table = call_of (e 2 (NameExpr [])) (e 3 (TableExpr no_items) ∷ [])

-- `local x = VALUE`, `x.p += 1`
abbrev pub field_added : ExprKind → Rules
field_added value = local_then value (Compound (e 10 (Index (name 11) (codes "p"))) Add (e 12 num)) ((11, UseLocal 0) ∷ [])

-- `local x = VALUE`, `x += 1`
abbrev pub local_added : ExprKind → Rules
local_added value = local_then value (Compound (name 10) Add (e 12 num)) ((10, UseLocal 0) ∷ [])

-- `local x = {p = "s"}`, some statements, `math.abs(x.p)`
abbrev pub property_read : List StatKind → Rules
property_read between =
    rules_of (locals (x_binds 0) (e 0 (table (Field (codes "p") (e 1 str) ∷ [])) ∷ []) ∷ between ++ CallStat (call_at 10 11 (e 12 (Index (name 13) (codes "p")) ∷ [])) ∷ [])
    ((3, UseGlobal) ∷ abs_use 11 ∷ (13, UseLocal 0) ∷ [])

-- `g()` with a global g
abbrev pub global_call : StatKind
global_call = CallStat (call_at 2 3 [])

-- `return table.freeze({p = "s"})`
abbrev pub returning_frozen : Rules
returning_frozen =
    rules_of (returning (e 0 (call_of (name 1) (e 2 (table (Field (codes "p") (e 3 str) ∷ [])) ∷ [])) ∷ []) ∷ [])
    ((1, UseBuiltin (codes "table.freeze")) ∷ [])

-- `local x = {p = "s"}`, `local y = table.freeze(x, ARGUMENTS)`, `math.abs(y.p)`
abbrev pub frozen_then_read : List Expr → Rules
frozen_then_read further =
    rules_of
    (locals (x_binds 0) (e 0 (table (Field (codes "p") (e 1 str) ∷ [])) ∷ [])
    ∷ locals (alone 1) (e 4 (call_of (name 5) (name 6 ∷ further)) ∷ [])
    ∷ CallStat (call_at 10 11 (e 12 (Index (name 13) (codes "p")) ∷ [])) ∷ [])
    ((3, UseGlobal) ∷ (5, UseBuiltin (codes "table.freeze")) ∷ (6, UseLocal 0) ∷ abs_use 11 ∷ (13, UseLocal 1) ∷ [])

-- `x.p += 1`
abbrev pub p_added : StatKind
p_added = Compound (e 20 (Index (name 13) (codes "p"))) Add (e 21 num)

-- `local x = nil`, `local t = {p = "s"}`, `local u = t`, `x, t.p = u, 1`, `math.abs(x.p)`
abbrev pub written_through_another : Rules
written_through_another =
    rules_of
    (locals (x_binds 0) (e 0 NilExpr ∷ [])
    ∷ locals (alone 1) (e 1 (table (Field (codes "p") (e 2 str) ∷ [])) ∷ [])
    ∷ locals (alone 2) (name 3 ∷ [])
    ∷ Assign (exprs_of (name 4 ∷ e 5 (Index (name 6) (codes "p")) ∷ [])) (exprs_of (name 7 ∷ e 8 num ∷ []))
    ∷ CallStat (call_at 10 11 (e 12 (Index (name 13) (codes "p")) ∷ [])) ∷ [])
    ((3, UseLocal 1) ∷ (4, UseLocal 0) ∷ (6, UseLocal 1) ∷ (7, UseLocal 2) ∷ abs_use 11 ∷ (13, UseLocal 0) ∷ [])

-- `for i = 1, nil do end`
abbrev pub counting_to_nil : Rules
counting_to_nil = rules_of (NumFor (declared 0) (e 0 num) (e 1 NilExpr) no_expr no_stats ∷ []) []

-- `for i in 1 do end`
abbrev pub going_over_one : Rules
going_over_one = rules_of (GenFor (alone 0) (exprs_of (e 0 num ∷ [])) no_stats ∷ []) []

-- `return FORM` of `nil`
abbrev pub of_nil : (Expr → ExprKind) → Rules
of_nil form = rules_of (returning (e 0 (form (e 1 NilExpr)) ∷ []) ∷ []) []

-- `e()`, `e.p`, `e:p()`, `-e`, `#e`, `e + 1`
abbrev pub called : Expr → ExprKind
called base = call_of base []

abbrev pub indexed : Expr → ExprKind
indexed base = Index base (codes "p")

abbrev pub method_called : Expr → ExprKind
method_called base = Method base (codes "p") somewhere (exprs_of [])

abbrev pub negated : Expr → ExprKind
negated operand = Unary Minus operand

abbrev pub measured : Expr → ExprKind
measured operand = Unary Length operand

abbrev pub one_added : Expr → ExprKind
one_added operand = Binary Add operand (e 2 num)
