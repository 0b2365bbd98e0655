-- Worked rows on bounded types: many tables, many fields, keys of all forms. `x` is the local 1, as in the rows on functions.
use Rattle.std.specs.Prelude.{ℕ, zero, suc, List, [], ◌∷◌, Some, codes}
use Rattle.luau_tree.specs.Tree.{Expr, ExprKind, TrueExpr, StrExpr, Index, IfElse, Interp, Paren, Choices, no_choices, more_choices, Field, Keyed, no_exprs, CallStat}
use Rattle.luau_run.specs.ReadModule.{UseBuiltin}
use Rattle.luau_run.specs.runs.Builders.{e, name, table, call_of}
use Rattle.type_arena.specs.Term.{Term, never}
use Rattle.type_normal.specs.Operations.{union}
use Rattle.type_normal.specs.Kinds.{number_type, string_type, text_type, field_is}
use Rattle.report_rules.specs.Rules.{TypedBuiltin, Rules}
use Rattle.report_rules.specs.rows.Builders.{checked_function, rules_with, function_of_x}
use Rattle.report_rules.specs.rows.Functions.{uses, abs_x_p, local_x}

-- `{p = FIRST, [KEY] = SECOND}`
abbrev pub keyed : (first key second : ExprKind) → ExprKind
keyed first key second = table (Field (codes "p") (e 31 first) ∷ Keyed (e 32 key) (e 34 second) ∷ [])

-- `local x = {p = FIRST, [KEY] = SECOND}`, `math.abs(x.p)`
abbrev pub key_read : (first key second : ExprKind) → Rules
key_read first key second = local_x (e 30 (keyed first key second)) (abs_x_p ∷ [])

-- the keys `"p"`, `1`, `("p")`, and an interpolation without parts
abbrev pub string_key : ExprKind
string_key = StrExpr (codes "p")

abbrev pub string_in_parentheses : ExprKind
string_in_parentheses = Paren (e 33 (StrExpr (codes "p")))

abbrev pub interpolated : ExprKind
interpolated = Interp (codes "p" ∷ []) no_exprs

-- `if true then {p = "A"} elseif true then ..`, as many times, with expressions numbered from a number on, and texts of one byte
-- from it on
abbrev pub tables : (count first : ℕ) → Choices
tables zero first = no_choices
tables (suc count) first =
    more_choices (e first TrueExpr) (e (suc first) (table (Field (codes "p") (e (suc (suc first)) (StrExpr (first ∷ []))) ∷ []))) (tables count (suc (suc (suc first))))

-- `local x = ` an if-expression of so many tables and one more, `math.abs(x.p)`
abbrev pub one_of_many : (count : ℕ) → Rules
one_of_many count =
    local_x (e 30 (IfElse (tables count 100) (e 31 (table (Field (codes "p") (e 32 (StrExpr (codes "z"))) ∷ []))))) (abs_x_p ∷ [])

-- a builtin of numbers, as many as are given
abbrev pub max : TypedBuiltin
max = checked_function (codes "math.max") (number_type ∷ []) (Some number_type) number_type

-- `x.a`, `x.b`, and so on, so many, with expressions numbered from a number on
abbrev pub fields_of_x : (count byte first : ℕ) → List Expr
fields_of_x zero byte first = []
fields_of_x (suc count) byte first = e first (Index (name 2) (byte ∷ [])) ∷ fields_of_x count (suc byte) (suc first)

-- `local function f(x: {a: string}) math.max(x.a, x.b, ..) end`
abbrev pub many_fields : (count : ℕ) → Rules
many_fields count =
    record (rules_with (function_of_x (CallStat (e 40 (call_of (name 8) (fields_of_x count 97 100))) ∷ []) ∷ []) ((8, UseBuiltin (codes "math.max")) ∷ uses) [] (λ index. field_is (codes "a") string_type)) {
      table = max ∷ [];
    }

-- the union of the tables whose field p is one of so many texts
abbrev pub texts_at_p : (count : ℕ) → Term
texts_at_p zero = never
texts_at_p (suc count) = union (field_is (codes "p") (text_type (count ∷ []))) (texts_at_p count)
