-- The order in which the reports of a module are given: by their offset, their kind, their message and the number of their place.
use Rattle.std.specs.Prelude.{ℕ, List, []}
use Rattle.std.specs.declared.cmp.Ordering.{Ordering}
use Rattle.std.specs.Ordering.{nat_cmp, on, then_cmp}
use Rattle.luau_tree.specs.declared.names.UnOp.{UnOp}
use Rattle.luau_tree.specs.declared.names.UnOp.TheVariants.{Minus, Not, Length}
use Rattle.luau_tree.specs.declared.names.BinOp.{BinOp}
use Rattle.luau_tree.specs.declared.names.BinOp.TheVariants.{Or, And, Less, Greater, LessEqual, GreaterEqual, NotEqual, Equal, Concat, Add, Sub, Mul, Div, FloorDiv, Mod, Pow}
use Rattle.luau_tree.specs.declared.names.Op.{Op}
use Rattle.luau_tree.specs.declared.names.Op.TheVariants.{Call, Index, Write, For, Iterate, Unary, Binary}
use Rattle.luau_tree.specs.declared.names.Place.{Place}
use Rattle.luau_tree.specs.declared.names.Place.TheVariants.{Expr, Param}
use Rattle.luau_tree.specs.Sorted.{bytes_cmp, sorted_by}
use Rattle.report_rules.specs.Rules.{Rules}
use Rattle.report_rules.specs.Checks.{ReportKind, Argument, Missing, Operand, ValueOf, ParameterOf}
use Rattle.report_rules.specs.Messages.{message}
use Rattle.report_rules.specs.Reports.{Report, reports}

-- where a kind stands among the kinds
abbrev pub kind_rank : ReportKind → ℕ
kind_rank (Argument index path) = 0
kind_rank (Missing index path) = 1
kind_rank (Operand op) = 2
kind_rank (ValueOf name) = 3
kind_rank (ParameterOf name) = 4

-- expressions come before parameters; each by its number, and parameters of one body by their positions
abbrev pub place_rank : Place → ℕ
place_rank (Expr id) = 0
place_rank (Param function index) = 1

abbrev pub place_number : Place → ℕ
place_number (Expr id) = id.0
place_number (Param function index) = function.0

abbrev pub place_position : Place → ℕ
place_position (Expr id) = 0
place_position (Param function index) = index

abbrev pub place_cmp : Place → Place → Ordering
place_cmp = then_cmp (on place_rank nat_cmp) (then_cmp (on place_number nat_cmp) (on place_position nat_cmp))

-- what tells reports of one kind apart: a position, a name, an operator
abbrev pub kind_position : ReportKind → ℕ
kind_position (Argument index path) = index
kind_position (Missing index path) = index
kind_position _ = 0

abbrev pub kind_name : ReportKind → List ℕ
kind_name (Argument index path) = path
kind_name (Missing index path) = path
kind_name (ValueOf name) = name
kind_name (ParameterOf name) = name
kind_name _ = []

abbrev pub unary_rank : UnOp → ℕ
unary_rank Minus = 5
unary_rank Not = 6
unary_rank Length = 7

abbrev pub binary_rank : BinOp → ℕ
binary_rank Or = 8
binary_rank And = 9
binary_rank Less = 10
binary_rank Greater = 11
binary_rank LessEqual = 12
binary_rank GreaterEqual = 13
binary_rank NotEqual = 14
binary_rank Equal = 15
binary_rank Concat = 16
binary_rank Add = 17
binary_rank Sub = 18
binary_rank Mul = 19
binary_rank Div = 20
binary_rank FloorDiv = 21
binary_rank Mod = 22
binary_rank Pow = 23

abbrev pub op_rank : Op → ℕ
op_rank Call = 0
op_rank Index = 1
op_rank Write = 2
op_rank For = 3
op_rank Iterate = 4
op_rank (Unary op) = unary_rank op
op_rank (Binary op) = binary_rank op

abbrev pub kind_op : ReportKind → ℕ
kind_op (Operand op) = op_rank op
kind_op _ = 0

abbrev pub kind_cmp : ReportKind → ReportKind → Ordering
kind_cmp = then_cmp (on kind_position nat_cmp) (then_cmp (on kind_name bytes_cmp) (on kind_op nat_cmp))

-- reports are compared by their offsets, their kinds, their messages and their places. Two that are alike in all of these differ in
-- no module that was read from a text, where each place has one span and one form around it; but so that only equal reports tie,
-- whatever the tree, what is left of them is compared too
abbrev pub report_cmp : Report → Report → Ordering
report_cmp =
    then_cmp (on (λ r. r.at.start) nat_cmp)
    (then_cmp (on (λ r. kind_rank r.kind) nat_cmp)
    (then_cmp (on (λ r. message r.kind) bytes_cmp)
    (then_cmp (on (λ r. r.place) place_cmp)
    (then_cmp (on (λ r. r.at.end) nat_cmp) (on (λ r. r.kind) kind_cmp)))))

-- some reports in order, each once
abbrev pub printed : List Report → List Report
printed = sorted_by report_cmp

-- the reports of a module, in order, each once
abbrev pub printed_reports : Rules → List Report
printed_reports rules = printed (reports rules)
