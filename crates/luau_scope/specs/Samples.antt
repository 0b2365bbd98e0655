-- Small modules, each with its text. The number of an expression is its offset.
use Rattle.std.specs.Prelude.{ℕ, zero, suc, ◌+◌, List, [], ◌∷◌, ◌++◌, Some, None, codes, true, false}
use Rattle.luau_tree.specs.Tree.{StatKind, Assign, CallStat, Do, While, Repeat, Local, LocalFunction, FunctionStat, Return, Break, Continue, If, no_arms, more_arms, no_block, TypeAlias, TypeFunction, Expr, StrExpr, Index, FunctionExpr, Paren, Vararg, the_bind, more_binds, no_binds, no_gens, more_gens, the_gen, a_type, no_type, the_type, Typeof, GenericPack, the_body, varargs, no_varargs}
use Rattle.luau_scope.specs.Examples.{from, e, name, num, exprs, binds, stats, body, call}

abbrev pub Sample : Type 0
Sample = List (ℕ × StatKind)

-- `x`, `f`, `a`, `b`
abbrev pub x : List ℕ
x = codes "x"

abbrev pub f : List ℕ
f = codes "f"

abbrev pub a : List ℕ
a = codes "a"

abbrev pub b : List ℕ
b = codes "b"

-- `local NAME = VALUE` at an offset
abbrev pub local_at : ℕ → List ℕ → Expr → ℕ × StatKind
local_at at bytes given = (at, Local (binds ((at + 6, bytes) ∷ [])) (exprs (given ∷ [])))

-- `TARGET = VALUE`
abbrev pub assign_at : ℕ → Expr → Expr → ℕ × StatKind
assign_at at target given = (at, Assign (exprs (target ∷ [])) (exprs (given ∷ [])))

-- `return VALUE`
abbrev pub return_at : ℕ → Expr → ℕ × StatKind
return_at at given = (at, Return (exprs (given ∷ [])))

-- `math.NAME` at an offset
abbrev pub math_at : ℕ → List ℕ → Expr
math_at at bytes = e at (Index (name (at + 1) (codes "math")) bytes)

-- `local x = "a"`, `local function set() x = 1 end`, `math.abs(x)`
abbrev pub loose_local : Sample
loose_local =
    local_at 0 x (e 10 (StrExpr (codes "a")))
    ∷ (14, LocalFunction (the_bind (codes "set") (from 29) no_type) (body 0 [] (assign_at 35 (name 35 x) (num 39) ∷ [])))
    ∷ (45, CallStat (call 45 (math_at 46 (codes "abs")) (name 54 x ∷ []))) ∷ []

-- `local function f(x) x = 1 end`
abbrev pub assigned_parameter : Sample
assigned_parameter = (0, LocalFunction (the_bind f (from 15) no_type) (body 0 ((17, x) ∷ []) (assign_at 20 (name 20 x) (num 24) ∷ []))) ∷ []

-- `local x = x`, `return x`: the first `x` is a global
abbrev pub own_value : Sample
own_value = local_at 0 x (name 10 x) ∷ return_at 12 (name 19 x) ∷ []

-- `local x = 1`, `do local x = 2 return x end`, then `return x`
abbrev pub hidden : Sample
hidden =
    local_at 0 x (num 10) ∷ (12, Do (stats (local_at 15 x (num 25) ∷ return_at 27 (name 34 x) ∷ [])))
    ∷ return_at 40 (name 47 x) ∷ []

-- `repeat local x = 1 until x`, `return x`
abbrev pub repeated : Sample
repeated = (0, Repeat (stats (local_at 7 x (num 17) ∷ [])) (name 25 x)) ∷ return_at 27 (name 34 x) ∷ []

-- `local x: typeof(x) = 1`: the `x` of the type is a global
abbrev pub own_type : Sample
own_type = (0, Local (more_binds (the_bind x (from 6) (a_type (the_type (from 9) (Typeof (name 16 x))))) no_binds) (exprs (num 21 ∷ []))) ∷ []

-- `local function f(x: typeof(f)) end`: the function is captured by its own header
abbrev pub header : Sample
header = (
  0,
  LocalFunction (the_bind f (from 15) no_type) (the_body 0 false no_gens
      (more_binds (the_bind x (from 17) (a_type (the_type (from 20) (Typeof (name 27 f))))) no_binds) no_varargs no_type (stats []) (from 16)),
) ∷ []

-- `local a, b = math.abs, f(function(x) return x end)`, `return a`: the parameter is the third local
abbrev pub two_locals : Sample
two_locals = (
  0,
  Local (binds ((6, a) ∷ (9, b) ∷ [])) (exprs (math_at 13 (codes "abs")
      ∷ call 23 (name 24 f) (e 25 (FunctionExpr (body 0 ((34, x) ∷ []) (return_at 37 (name 44 x) ∷ []))) ∷ []) ∷ [])),
)
    ∷ return_at 51 (name 58 a) ∷ []

-- `return require("./a")`, `return require(x)`, `return (require)("./a")`, `return require("a")`
abbrev pub static_require : Sample
static_require = return_at 0 (call 7 (name 8 (codes "require")) (e 15 (StrExpr (codes "./a")) ∷ [])) ∷ []

abbrev pub require_of_name : Sample
require_of_name = return_at 0 (call 7 (name 8 (codes "require")) (name 15 x ∷ [])) ∷ []

abbrev pub require_in_parentheses : Sample
require_in_parentheses = return_at 0 (call 7 (e 8 (Paren (name 9 (codes "require")))) (e 17 (StrExpr (codes "./a")) ∷ [])) ∷ []

abbrev pub require_by_name : Sample
require_by_name = return_at 0 (call 7 (name 8 (codes "require")) (e 15 (StrExpr (codes "a")) ∷ [])) ∷ []

-- `local require = f`, `return require(x)`: a local of that name is nothing special
abbrev pub own_require : Sample
own_require = local_at 0 (codes "require") (name 16 f) ∷ return_at 18 (call 25 (name 26 (codes "require")) (name 33 x ∷ [])) ∷ []

-- `NAME({}, {})` as a statement, where the arguments play no part
abbrev pub calling : List ℕ → Sample
calling bytes = (0, CallStat (call 0 (name 1 bytes) [])) ∷ []

-- `TARGET = 1`
abbrev pub setting : Expr → Sample
setting target = assign_at 0 target (num 20) ∷ []

-- `function PATH() end`, and `function PATH:m() end`
abbrev pub function_named : Expr → Sample
function_named path = (0, FunctionStat path None (body 0 [] [])) ∷ []

abbrev pub method_named : Expr → Sample
method_named path = (0, FunctionStat path (Some (codes "m")) (body 0 ((15, codes "self") ∷ []) [])) ∷ []

-- `local a`, `a, a = 1, 2`
abbrev pub twice : Sample
twice = (0, Local (binds ((6, a) ∷ [])) (exprs [])) ∷ (8, Assign (exprs (name 8 a ∷ name 11 a ∷ [])) (exprs (num 15 ∷ num 18 ∷ []))) ∷ []

-- so many declarations of a name in one `local`, and in one after another
abbrev pub many_names : ℕ → ℕ → List (ℕ × List ℕ)
many_names at zero = []
many_names at (suc n) = (at, x) ∷ many_names (at + 3) n

-- `local x, x, ..`
abbrev pub many_locals : ℕ → Sample
many_locals n = (0, Local (binds (many_names 6 n)) (exprs [])) ∷ []

-- the same, and within it a function with a local of its own
abbrev pub many_around_function : ℕ → Sample
many_around_function n = many_locals n ++ (return_at 1000 (e 1007 (FunctionExpr (body 0 ((1016, x) ∷ []) []))) ∷ [])

-- `break`, `while x do break end`, `while x do return function() break end end`
abbrev pub lone_break : Sample
lone_break = (0, Break) ∷ []

abbrev pub break_in_loop : Sample
break_in_loop = (0, While (name 6 x) (stats ((11, Break) ∷ []))) ∷ []

abbrev pub break_in_function : Sample
break_in_function = (0, While (name 6 x) (stats (return_at 11 (e 18 (FunctionExpr (body 0 [] ((29, Break) ∷ [])))) ∷ []))) ∷ []

abbrev pub lone_continue : Sample
lone_continue = (0, Continue) ∷ []

-- `if x then continue end`
abbrev pub continue_at : ℕ → ℕ × StatKind
continue_at at = (at, If (more_arms (name (at + 3) x) (stats ((at + 10, Continue) ∷ [])) no_arms) no_block)

-- `repeat if x then continue end local a = 1 until UNTIL`
abbrev pub continue_before : Expr → Sample
continue_before until = (0, Repeat (stats (continue_at 7 ∷ local_at 30 a (num 40) ∷ [])) until) ∷ []

-- `repeat local a = 1 if x then continue end until a`
abbrev pub continue_behind : Sample
continue_behind = (0, Repeat (stats (local_at 7 a (num 17) ∷ continue_at 19 ∷ [])) (name 48 a)) ∷ []

-- `repeat while x do if x then continue end end local a = 1 until a`: the `continue` belongs to the inner loop
abbrev pub continue_of_inner_loop : Sample
continue_of_inner_loop = (0, Repeat (stats ((7, While (name 13 x) (stats (continue_at 18 ∷ []))) ∷ local_at 45 a (num 55) ∷ [])) (name 63 a)) ∷ []

-- `return ...`, `return function() return ... end`, `return function(...) return ... end`
abbrev pub dots : ℕ → Expr
dots at = e at Vararg

abbrev pub dots_in_module : Sample
dots_in_module = return_at 0 (dots 7) ∷ []

abbrev pub dots_in_function : Sample
dots_in_function = return_at 0 (e 7 (FunctionExpr (body 0 [] (return_at 18 (dots 25) ∷ [])))) ∷ []

abbrev pub dots_taken : Sample
dots_taken = return_at 0 (e 7 (FunctionExpr (the_body 0 false no_gens no_binds (varargs no_type) no_type (stats (return_at 21 (dots 28) ∷ [])) (from 15)))) ∷ []

-- `type T<U...> = U`, `type T = U...`, `type function f() end`
abbrev pub generic_pack : Sample
generic_pack = (0, TypeAlias false (codes "T") (more_gens (the_gen (codes "U") (from 7) true no_type) no_gens) (the_type (from 15) (GenericPack (codes "U")))) ∷ []

abbrev pub pack_in_type : Sample
pack_in_type = (0, TypeAlias false (codes "T") no_gens (the_type (from 9) (GenericPack (codes "U")))) ∷ []

abbrev pub type_function : Sample
type_function = (0, TypeFunction false f (body 0 [] (return_at 20 (name 27 (codes "_G")) ∷ []))) ∷ []

-- `setmetatable(x) break`
abbrev pub metatable_then_break : Sample
metatable_then_break = calling (codes "setmetatable") ++ ((16, Break) ∷ [])

-- `local x = 1`, `return function(a) return function() return x + a end end`, where the sum plays no part
abbrev pub nested : Sample
nested = local_at 0 x (num 10) ∷ return_at 12 (e 19 (FunctionExpr (body 0 ((28, a) ∷ [])
    (return_at 31 (e 38 (FunctionExpr (body 1 [] ((49, Return (exprs (name 56 x ∷ name 60 a ∷ []))) ∷ [])))) ∷ [])))) ∷ []
