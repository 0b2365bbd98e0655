-- Worked runs of loops.
use Rattle.std.specs.Prelude.{[], ◌∷◌, codes}
use Rattle.luau_tree.specs.Tree.{While, Repeat, If, NumFor, GenFor, LocalFunction, Break, Continue, no_arms, more_arms, no_stats, a_block, no_expr, an_expr, ExprKind, NilExpr, TrueExpr, FalseExpr, no_binds}
use Rattle.luau_run.specs.ReadModule.{UseLocal, UseBuiltin}
use Rattle.luau_run.specs.Program.{Program}
use Rattle.luau_run.specs.runs.Builders.{e, num, str, name, call_of, table, exprs_of, declared, alone, both, block_of, body_of, locals, assign, if_then, returning, one_module}

-- `repeat local y = 1 until y`
abbrev pub repeated : Program
repeated = one_module (Repeat (block_of (locals (alone 0) (e 0 num ∷ []) ∷ [])) (name 1) ∷ []) ((1, UseLocal 0) ∷ []) []

-- `repeat continue until CONDITION`
abbrev pub continued : ExprKind → Program
continued cond = one_module (Repeat (block_of (Continue ∷ [])) (e 0 cond) ∷ []) [] []

-- `repeat break until nil`
abbrev pub repeat_broken_off : Program
repeat_broken_off = one_module (Repeat (block_of (Break ∷ [])) (e 0 NilExpr) ∷ []) [] []

-- `while nil do return "s" end`
abbrev pub no_turn : Program
no_turn = one_module (While (e 0 NilExpr) (block_of (returning (e 1 str ∷ []) ∷ [])) ∷ []) [] []

-- `local x`, `while true do if x then break end x = 1 continue end`, `return x`
abbrev pub two_turns : Program
two_turns = one_module
    (locals (alone 0) []
    ∷ While (e 0 TrueExpr) (block_of (if_then (name 1) (Break ∷ []) ∷ assign (name 2) (e 3 num) ∷ Continue ∷ []))
    ∷ returning (name 4 ∷ []) ∷ [])
    ((1, UseLocal 0) ∷ (2, UseLocal 0) ∷ (4, UseLocal 0) ∷ []) []

-- `local x`, `for k, v in {} do x = v end`, `return x`
abbrev pub over_table : Program
over_table = one_module
    (locals (alone 0) []
    ∷ GenFor (both 1 2) (exprs_of (e 1 (table []) ∷ [])) (block_of (assign (name 2) (name 3) ∷ []))
    ∷ returning (name 4 ∷ []) ∷ [])
    ((2, UseLocal 0) ∷ (3, UseLocal 2) ∷ (4, UseLocal 0) ∷ []) []

-- `local x`, `local function f(s, c) if c then return nil end return 1, s end`, `for k, v in f,
-- false do x = v end`, `return x`
abbrev pub over_function : Program
over_function = one_module
    (locals (alone 0) []
    ∷ LocalFunction (declared 1) (body_of 0 (both 2 3) (if_then (name 0) (returning (e 1 NilExpr ∷ []) ∷ []) ∷ returning (e 2 num ∷ name 3 ∷ []) ∷ []))
    ∷ GenFor (both 4 5) (exprs_of (name 4 ∷ e 5 FalseExpr ∷ [])) (block_of (assign (name 6) (name 7) ∷ []))
    ∷ returning (name 8 ∷ []) ∷ [])
    ((0, UseLocal 3) ∷ (3, UseLocal 2) ∷ (4, UseLocal 1) ∷ (6, UseLocal 0) ∷ (7, UseLocal 5) ∷ (8, UseLocal 0) ∷ []) []

-- `for x in pcall do return x end`
abbrev pub over_builtin : Program
over_builtin = one_module
    (GenFor (alone 0) (exprs_of (name 0 ∷ [])) (block_of (returning (name 1 ∷ []) ∷ [])) ∷ [])
    ((0, UseBuiltin (codes "pcall")) ∷ (1, UseLocal 0) ∷ []) []

-- `local x`, `for i = 1, 1 do local j = i local function get() return j end if x then else x = get
-- end end`, `return x()`
abbrev pub fresh_cells : Program
fresh_cells = one_module
    (locals (alone 0) []
    ∷ NumFor (declared 1) (e 0 num) (e 1 num) no_expr (block_of
    (locals (alone 2) (name 2 ∷ [])
    ∷ LocalFunction (declared 3) (body_of 0 no_binds (returning (name 3 ∷ []) ∷ []))
    ∷ If (more_arms (name 4) no_stats no_arms) (a_block (block_of (assign (name 5) (name 6) ∷ []))) ∷ []))
    ∷ returning (e 7 (call_of (name 8) []) ∷ []) ∷ [])
    ((2, UseLocal 1) ∷ (3, UseLocal 2) ∷ (4, UseLocal 0) ∷ (5, UseLocal 0) ∷ (6, UseLocal 3) ∷ (8, UseLocal 0) ∷ []) (2 ∷ [])

-- `for i = BOUND, 1 do end`
abbrev pub counting_from : ExprKind → Program
counting_from bound = one_module (NumFor (declared 0) (e 0 bound) (e 1 num) no_expr no_stats ∷ []) [] []

-- `for i = 1, 1, STEP do end`
abbrev pub counting_by : ExprKind → Program
counting_by by = one_module (NumFor (declared 0) (e 0 num) (e 1 num) (an_expr (e 2 by)) no_stats ∷ []) [] []
