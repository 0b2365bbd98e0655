-- Checks: what makes a report, of which kind, and by which set each part of an expression is checked.
use Rattle.std.specs.Prelude.{ℕ, zero, suc, Bool, true, false, not, ◌&&◌, List, [], ◌∷◌, Option, Some, None, if◌then◌else◌}
use Rattle.luau_tree.specs.declared.names.BinOp.{BinOp}
use Rattle.luau_tree.specs.declared.names.BinOp.TheVariants.{Or, And, Less, Greater, LessEqual, GreaterEqual, NotEqual, Equal}
use Rattle.luau_tree.specs.declared.names.UnOp.{UnOp}
use Rattle.luau_tree.specs.declared.names.UnOp.TheVariants.{Minus, Not, Length}
use Rattle.luau_tree.specs.declared.names.Op.{Op}
use Rattle.luau_tree.specs.Tree.{Expr, Exprs, no_exprs, more_exprs}
use Rattle.luau_run.specs.Statements.{place_of}
use Rattle.type_arena.specs.Term.{Function, builtin, Term, never}
use Rattle.type_normal.specs.Rows.{is_empty}
use Rattle.type_normal.specs.Operations.{union, fail}
use Rattle.type_normal.specs.Kinds.{nil_type, number_type, string_type, has_nil, exactly_one_function}
use Rattle.type_normal.specs.Failing.{arith_fail, length_fail, order_fail_with_number, order_fail_with_string}
use Rattle.subtype_check.specs.Below.{below}
use Rattle.report_rules.specs.Rules.{TypedBuiltin, Rules, declared}
use Rattle.report_rules.specs.Effects.{last_expands}
use Rattle.report_rules.specs.Forward.{not_other}
use Rattle.report_rules.specs.Seen.{Seen, type_at, is_live}

-- what a report says. Arguments and parameters count from 0
pub data ReportKind : Type 0 where
  Argument : (index : ℕ) (path : List ℕ) → ReportKind
  Missing : (index : ℕ) (path : List ℕ) → ReportKind
  Operand : (op : Op) → ReportKind
  ValueOf : (name : List ℕ) → ReportKind
  ParameterOf : (name : List ℕ) → ReportKind

abbrev pub type_of : List Seen → Expr → Term
type_of seen e = type_at seen (place_of e)

-- an expression is reported if its place is live, its type has values, and all of them are in the set with which the code
-- around it fails
abbrev pub check : List Seen → Expr → Term → ReportKind → List ReportKind
check seen e set kind =
    if is_live seen (place_of e) && (not (is_empty (type_of seen e)) && below (type_of seen e) set) then kind ∷ [] else []

-- what is left of a set that an expression was checked by: nothing, where it is reported
abbrev pub left : List ReportKind → Term → Term
left [] set = set
left (kind ∷ kinds) set = never

abbrev pub left_of : List Seen → Expr → Term → ReportKind → Term
left_of seen e set kind = left (check seen e set kind) set

-- the set for an operand of arithmetic or of `..`, by the type of the other side: where that may be a value of no other kind,
-- anything may happen
abbrev pub arithmetic_set : (other : Term) → Term
arithmetic_set other = if below other not_other then arith_fail else never

-- the set for a side of an order, by the type of the other side
abbrev pub order_set : (other : Term) → Term
order_set other =
    if below other number_type then order_fail_with_number
    else if below other string_type then order_fail_with_string
    else arithmetic_set other

-- the set for a side of a binary operation, by the type of the other side
abbrev pub operand_set : BinOp → (other : Term) → Term
operand_set Or other = never
operand_set And other = never
operand_set Equal other = never
operand_set NotEqual other = never
operand_set Less other = order_set other
operand_set Greater other = order_set other
operand_set LessEqual other = order_set other
operand_set GreaterEqual other = order_set other
operand_set op other = arithmetic_set other

abbrev pub unary_set : UnOp → Term
unary_set Minus = arith_fail
unary_set Length = length_fail
unary_set Not = never

-- the checked builtin that a call is certain to call
abbrev pub if_checked : Option TypedBuiltin → Option TypedBuiltin
if_checked (Some b) = if b.checked then Some b else None
if_checked None = None

abbrev pub checked_function : Rules → Option Function → Option TypedBuiltin
checked_function rules (Some (builtin path)) = if_checked (declared rules path)
checked_function rules _ = None

abbrev pub checked_callee : Rules → List Seen → Expr → Option TypedBuiltin
checked_callee rules seen callee = checked_function rules (exactly_one_function (type_of seen callee))

-- what is wanted of the argument at a position: its parameter's type, or the rest type past the parameters. An argument that
-- expands may give no value at all there, and then nothing is looked at
abbrev pub further_set : (expanding : Bool) → Option Term → Term
further_set expanding None = never
further_set true (Some rest) = fail (union rest nil_type)
further_set false (Some rest) = fail rest

abbrev pub set_at : (position : ℕ) → (expanding : Bool) → List Term → Option Term → Term
set_at position expanding [] rest = further_set expanding rest
set_at zero expanding (type ∷ params) rest = fail type
set_at (suc position) expanding (type ∷ params) rest = set_at position expanding params rest

-- the set with which the argument at a position makes a call fail
abbrev pub argument_set : Option TypedBuiltin → (position : ℕ) → (expanding : Bool) → Term
argument_set None position expanding = never
argument_set (Some b) position expanding = set_at position expanding b.params b.rest

-- what is reported of an argument
abbrev pub argument_kinds : List Seen → Option TypedBuiltin → (position : ℕ) → (expanding : Bool) → Expr → List ReportKind
argument_kinds seen None position expanding e = []
argument_kinds seen (Some b) position expanding e = check seen e (set_at position expanding b.params b.rest) (Argument position b.path)

-- the set that an argument stands under while the call is awaited: none where it expands, since it may give other values than
-- one
abbrev pub argument_left : List Seen → Option TypedBuiltin → (position : ℕ) → (expanding : Bool) → Expr → Term
argument_left seen b position true e = never
argument_left seen b position false e = left (argument_kinds seen b position false e) (argument_set b position false)

-- the least parameter from a position on whose type has no nil
abbrev pub lacking : (position : ℕ) → List Term → Option ℕ
lacking position [] = None
lacking position (type ∷ params) = if has_nil type then lacking (suc position) params else Some position

-- the parameters past as many
abbrev pub past : Exprs → List Term → List Term
past no_exprs params = params
past (more_exprs e rest) [] = []
past (more_exprs e rest) (type ∷ params) = past rest params

abbrev pub count : Exprs → ℕ
count no_exprs = 0
count (more_exprs e rest) = suc (count rest)

abbrev pub missing_at : List ℕ → Option ℕ → List ReportKind
missing_at path None = []
missing_at path (Some position) = Missing position path ∷ []

-- what is reported at a call that lacks an argument: nothing if the last argument expands
abbrev pub missing : (live : Bool) → Option TypedBuiltin → Exprs → List ReportKind
missing live None args = []
missing live (Some b) args = if live && not (last_expands args) then missing_at b.path (lacking (count args) (past args b.params)) else []
