-- Worked rows on parameters, branches and loops. In each of them the parameter is the local 1, and `x` its name; the expressions
-- of `math.abs(x)` have the numbers 0 to 2, those of `string.lower(x)` 3 to 5.
use Rattle.std.specs.Prelude.{ℕ, List, [], ◌∷◌, codes}
use Rattle.luau_tree.specs.declared.names.BinOp.TheVariants.{Equal, And, Add}
use Rattle.luau_tree.specs.Tree.{Expr, StrExpr, NameExpr, Index, Binary, Field, StatKind, CallStat, While, Repeat, If, NumFor, LocalFunction, Break, Compound, no_arms, more_arms, a_block, no_expr, no_binds}
use Rattle.luau_run.specs.ReadModule.{Use, UseLocal, UseBuiltin, UseGlobal}
use Rattle.luau_run.specs.runs.Builders.{e, num, str, name, table, declared, block_of, body_of, locals, assign, returning}
use Rattle.type_arena.specs.Term.{Term}
use Rattle.type_normal.specs.Kinds.{unknown}
use Rattle.report_rules.specs.Rules.{Rules}
use Rattle.report_rules.specs.rows.Builders.{rules_of, rules_with, call_at, x_binds, function_of_x}

-- what the names stand for: 6 is a global c
abbrev pub uses : List (ℕ × Use)
uses =
    (1, UseBuiltin (codes "math.abs")) ∷ (2, UseLocal 1) ∷ (4, UseBuiltin (codes "string.lower")) ∷ (5, UseLocal 1) ∷ (6, UseGlobal)
    ∷ (8, UseBuiltin (codes "type")) ∷ (9, UseLocal 1) ∷ []

abbrev pub abs_x : StatKind
abs_x = CallStat (call_at 0 1 (name 2 ∷ []))

abbrev pub lower_x : StatKind
lower_x = CallStat (call_at 3 4 (name 5 ∷ []))

abbrev pub c : Expr
c = name 6

-- `local function f(x) STATEMENTS end`
abbrev pub with_x : List StatKind → Rules
with_x kinds = rules_of (function_of_x kinds ∷ []) uses

-- the same, where x has an annotation
abbrev pub with_annotated_x : Term → List StatKind → Rules
with_annotated_x type kinds = rules_with (function_of_x kinds ∷ []) uses [] (λ index. type)

-- the same, where x is loose
abbrev pub with_loose_x : List StatKind → Rules
with_loose_x kinds = rules_with (function_of_x kinds ∷ []) uses (1 ∷ []) (λ index. unknown)

-- `g()` with a global g
abbrev pub unknown_call : StatKind
unknown_call = CallStat (call_at 40 6 [])

-- `x.q = 1`
abbrev pub q_written : StatKind
q_written = assign (e 41 (Index (name 9) (codes "q"))) (e 42 num)

-- `if COND then STATEMENT else STATEMENT end`
abbrev pub choosing : Expr → StatKind → StatKind → StatKind
choosing cond one other = If (more_arms cond (block_of (one ∷ [])) no_arms) (a_block (block_of (other ∷ [])))

-- `type(x) == "number"`
abbrev pub is_number : Expr
is_number = e 10 (Binary Equal (call_at 7 8 (name 9 ∷ [])) (e 11 (StrExpr (codes "number"))))

-- `math.abs(x.p)`
abbrev pub abs_x_p : StatKind
abs_x_p = CallStat (call_at 0 1 (e 12 (Index (name 2) (codes "p")) ∷ []))

-- `return x and math.abs(x)`
abbrev pub guarded_call : StatKind
guarded_call = returning (e 10 (Binary And (name 9) (call_at 0 1 (name 2 ∷ []))) ∷ [])

-- `repeat math.abs(x) until string.lower(x)`
abbrev pub until_lower : StatKind
until_lower = Repeat (block_of (abs_x ∷ [])) (call_at 3 4 (name 5 ∷ []))

-- `while c do STATEMENTS end`
abbrev pub while_c : List StatKind → StatKind
while_c kinds = While c (block_of kinds)

-- `x = "s"`, with the number 21 for the string
abbrev pub x_becomes_s : StatKind
x_becomes_s = assign (e 20 (NameExpr (codes "x"))) (e 21 str)

-- the same names in a module where x is a local of its own block
abbrev pub outer_uses : List (ℕ × Use)
outer_uses = (20, UseLocal 1) ∷ (13, UseLocal 1) ∷ (16, UseLocal 1) ∷ uses

-- `local x = VALUE`, with the number 30 for the value, and statements
abbrev pub local_x : Expr → List StatKind → Rules
local_x value kinds = rules_of (locals (x_binds 1) (value ∷ []) ∷ kinds) outer_uses

-- `local x = "s"`, `repeat math.abs(x) x = 1 until c`
abbrev pub repeated : Rules
repeated = local_x (e 30 str) (Repeat (block_of (abs_x ∷ assign (name 20) (e 22 num) ∷ [])) c ∷ [])

-- `local x = "s"`, `local function set() x = 1 end`, `math.abs(x)`, where x is loose
abbrev pub captured : Rules
captured =
    rules_with (locals (x_binds 1) (e 30 str ∷ []) ∷ LocalFunction (declared 0) (body_of 0 no_binds (assign (name 20) (e 22 num) ∷ [])) ∷ abs_x ∷ [])
    outer_uses (1 ∷ []) (λ index. unknown)

-- `local x = 1`, `while c do x = "s" break end`, `math.abs(x)`
abbrev pub broken_off : Rules
broken_off = local_x (e 30 num) (while_c (x_becomes_s ∷ Break ∷ []) ∷ abs_x ∷ [])

-- `local x = {p = "s"}`, `for i = 1, 1 do math.abs(x.p) STATEMENTS end`
abbrev pub counting : List StatKind → Rules
counting kinds =
    local_x (e 30 (table (Field (codes "p") (e 31 str) ∷ []))) (NumFor (declared 2) (e 40 num) (e 41 num) no_expr (block_of (abs_x_p ∷ kinds)) ∷ [])

-- `x.p += 1`
abbrev pub p_added : StatKind
p_added = Compound (e 15 (Index (name 16) (codes "p"))) Add (e 17 num)
