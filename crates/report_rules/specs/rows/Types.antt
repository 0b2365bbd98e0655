-- Worked rows on types: what conditions say of a local, contexts, and what modules give.
use Rattle.std.specs.Prelude.{ℕ, List, [], ◌∷◌, ◌++◌, codes}
use Rattle.luau_tree.specs.declared.names.BinOp.{BinOp}
use Rattle.luau_tree.specs.declared.names.BinOp.TheVariants.{And, Or, Equal}
use Rattle.luau_tree.specs.declared.names.UnOp.TheVariants.{Not}
use Rattle.luau_tree.specs.Tree.{Expr, ExprKind, NilExpr, StrExpr, FunctionExpr, Index, Paren, Unary, Binary, IfElse, no_choices, more_choices, no_binds, Field, StatKind, If, no_arms, more_arms, no_block}
use Rattle.luau_run.specs.ReadModule.{UseLocal, UseBuiltin, UseLibrary, UseGlobal}
use Rattle.luau_run.specs.runs.Builders.{e, num, str, name, table, call_of, block_of, body_of, locals, returning}
use Rattle.type_arena.specs.Term.{Term}
use Rattle.type_normal.specs.Kinds.{unknown}
use Rattle.report_rules.specs.Rules.{Rules}
use Rattle.report_rules.specs.TypeMap.{no_map}
use Rattle.report_rules.specs.Forward.{typ}
use Rattle.report_rules.specs.Context.{Context, only_for}
use Rattle.report_rules.specs.rows.Builders.{rules_of, rules_with, call_at, x_binds}

-- a module in which 0 is the local x, 1 the builtin `type`, 2 that local again, 3 a global, and 4 `table.freeze`
abbrev pub names : Rules
names = rules_of [] ((0, UseLocal 0) ∷ (1, UseBuiltin (codes "type")) ∷ (2, UseLocal 0) ∷ (3, UseGlobal) ∷ [])

-- `type(x) OP "K"`
abbrev pub kind_compared : BinOp → List ℕ → Expr
kind_compared op kind = e 10 (Binary op (call_at 11 1 (name 2 ∷ [])) (e 12 (StrExpr kind)))

-- `x OP C`, and `C OP x`
abbrev pub compared : BinOp → ExprKind → Expr
compared op constant = e 10 (Binary op (name 0) (e 11 constant))

abbrev pub compared_after : BinOp → ExprKind → Expr
compared_after op constant = e 10 (Binary op (e 11 constant) (name 0))

-- `(x)`, `not x`, `A and B`, `A or B`, `(x) == nil`
abbrev pub in_parentheses : Expr
in_parentheses = e 13 (Paren (name 0))

abbrev pub negated : Expr
negated = e 14 (Unary Not (name 0))

abbrev pub both_of : (left right : Expr) → Expr
both_of left right = e 15 (Binary And left right)

abbrev pub one_of : (left right : Expr) → Expr
one_of left right = e 15 (Binary Or left right)

abbrev pub compared_in_parentheses : Expr
compared_in_parentheses = e 10 (Binary Equal in_parentheses (e 11 NilExpr))

-- `type(ARGUMENTS) == "number"`
abbrev pub kind_of : List Expr → Expr
kind_of args = e 10 (Binary Equal (call_at 11 1 args) (e 12 (StrExpr (codes "number"))))

-- the same names, where x is loose
abbrev pub loose_names : Rules
loose_names = rules_with [] ((0, UseLocal 0) ∷ []) (0 ∷ []) (λ index. unknown)

-- the context of one local
abbrev pub x_in : Term → Context
x_in type = only_for names 0 type

-- `local x = {p = "s"}`, statements, `return x.p`
abbrev pub giving_p : List StatKind → Rules
giving_p between =
    rules_of (locals (x_binds 0) (e 20 (table (Field (codes "p") (e 21 str) ∷ [])) ∷ []) ∷ between ++ returning (e 22 (Index (name 0) (codes "p")) ∷ []) ∷ [])
    ((0, UseLocal 0) ∷ (3, UseGlobal) ∷ [])

-- `return table.freeze({p = "s"})`, and `return {p = "s"}`
abbrev pub giving_frozen : Rules
giving_frozen = rules_of (returning (e 0 (call_of (name 4) (e 1 (table (Field (codes "p") (e 2 str) ∷ [])) ∷ [])) ∷ []) ∷ []) ((4, UseBuiltin (codes "table.freeze")) ∷ [])

abbrev pub giving_table : Rules
giving_table = rules_of (returning (e 1 (table (Field (codes "p") (e 2 str) ∷ [])) ∷ []) ∷ []) []

-- `if c then return 1 end`
abbrev pub giving_sometimes : Rules
giving_sometimes = rules_of (If (more_arms (name 3) (block_of (returning (e 4 num ∷ []) ∷ [])) no_arms) no_block ∷ []) ((3, UseGlobal) ∷ [])

-- a module in which 0 is the local x, 3 a global, 5 a library and 6 `table.freeze`
abbrev pub typed : Rules
typed = rules_of [] ((0, UseLocal 0) ∷ (3, UseGlobal) ∷ (5, UseLibrary) ∷ (6, UseBuiltin (codes "table.freeze")) ∷ [])

-- the type of an expression in that module, where nothing is known of x
abbrev pub type_of_form : ExprKind → Term
type_of_form kind = typ typed no_map (e 20 kind)

-- a global's value, a string, a numeral, and `{p = "s"}`, as parts
abbrev pub anything : Expr
anything = name 3

abbrev pub text : Expr
text = e 21 str

abbrev pub one : Expr
one = e 22 num

abbrev pub with_p : Expr
with_p = e 23 (table (Field (codes "p") (e 24 str) ∷ []))

-- `if x == nil then VALUE else LAST`
abbrev pub chosen : (value last : Expr) → ExprKind
chosen value last = IfElse (more_choices (compared Equal NilExpr) value no_choices) last

-- `function() end`
abbrev pub literal_zero : ExprKind
literal_zero = FunctionExpr (body_of 0 no_binds [])
