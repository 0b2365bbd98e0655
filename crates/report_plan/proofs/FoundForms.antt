-- What the reports of each form of an expression are made of.
use Rattle.std.specs.Prelude.{Option, Some, None, if◌then◌else◌}
use Rattle.std.proofs.Common.{◌≡◌, ℕ, suc, Bool, true, false, List, [], ◌∷◌, ◌++◌, refl, sym, subst, ap, ◌∙◌, append_assoc}
use Rattle.luau_tree.specs.declared.position.Span.{Span}
use Rattle.luau_tree.specs.declared.names.BinOp.{BinOp}
use Rattle.luau_tree.specs.declared.names.UnOp.{UnOp}
use Rattle.luau_tree.specs.Tree.{Expr, the_expr, Exprs, no_exprs, more_exprs, ExprKind, NilExpr, TrueExpr, FalseExpr, NumberExpr, StrExpr, Vararg, FunctionExpr, NameExpr, Index, At, Call, Method, Paren, Unary, Binary, IfElse, TableExpr, Interp, Assert, TypeSyntax, Body, the_body, Choices, no_choices, more_choices, Item, Field, Keyed, Plain, Items, no_items, more_items, Block, Binds, Gens, Varargs, MaybeType}
use Rattle.report_rules.specs.Rules.{Rules, use_of}
use Rattle.report_rules.specs.Seen.{Seen}
use Rattle.report_rules.specs.Context.{Context, none}
use Rattle.report_rules.specs.Statements.{stm_block}
use Rattle.report_rules.specs.Checks.{ReportKind, checked_callee}
use Rattle.report_rules.specs.Errors.{index_kinds, expands_as}
use Rattle.report_rules.specs.Findings.{Finding, is_builtin, read_kinds, found, found_in, found_parts, found_args, found_choices, found_items, found_body, found_params, found_block}
use Rattle.report_rules.specs.Reports.{Report, reports_at, reports_of}
use Rattle.report_work.specs.Work.{Work}
use Rattle.report_work.specs.Moves.{reported, apart, unlooped, behind_restored}
use Rattle.report_work.specs.Checks.{Check, Unchecked, Callee, ArgumentOf, Base, UnaryOperand, SideBeside, check_kinds}
use Rattle.report_work.specs.Expressions.{values_at_hand, each, each_arg, each_item, each_choice}
use Rattle.report_work.specs.Found.{base_check, found_as, found_own, found_there, found_parts_as, read_check, found_choice, found_item, with_body, with_params}
use Rattle.report_work.specs.Statements.{with_block}

-- reports of some findings and then of others
pub reports_both : (a b : List Finding) (reports : List Report) → reports_of a ++ (reports_of b ++ reports) ≡ reports_of (a ++ b) ++ reports
reports_both [] b reports = refl
reports_both (finding ∷ a) b reports =
    append_assoc (reports_at finding) (reports_of a) (reports_of b ++ reports)
    ∙ ap (λ (rest : List Report). reports_at finding ++ rest) (reports_both a b reports)
    ∙ sym (append_assoc (reports_at finding) (reports_of (a ++ b)) reports)

pub reports_of_three : (a b c : List Finding) (reports : List Report) → reports_of a ++ (reports_of b ++ (reports_of c ++ reports)) ≡ reports_of ((a ++ b) ++ c) ++ reports
reports_of_three a b c reports = reports_both a b (reports_of c ++ reports) ∙ reports_both (a ++ b) c reports

-- some findings before others
pub reported_both : (a b : List Finding) (work : Work) → reported a (reported b work) ≡ reported (a ++ b) work
reported_both a b work = ap (λ (reports : List Report). record work { reports = reports }) (reports_both a b work.reports)

-- ## Lists

pub parts_found : (rules : Rules) (seen : List Seen) (es : Exprs) (work : Work) → each (found_as rules seen Unchecked) es work ≡ reported (found_parts rules seen es) work
parts_found rules seen no_exprs work = refl
parts_found rules seen (more_exprs e rest) work =
    ap (found_as rules seen Unchecked e) (parts_found rules seen rest work) ∙ reported_both (found rules seen [] e) (found_parts rules seen rest) work

pub args_found : (rules : Rules) (seen : List Seen) (callee : Expr) (position : ℕ) (args : Exprs) (work : Work)
    → each_arg (found_as rules seen) callee position args work ≡ reported (found_args rules seen (checked_callee rules seen callee) position args) work
args_found rules seen callee position no_exprs work = refl
args_found rules seen callee position (more_exprs e rest) work =
    ap (found_as rules seen (ArgumentOf callee position (expands_as e rest)) e) (args_found rules seen callee (suc position) rest work)
    ∙ reported_both (found rules seen _ e) (found_args rules seen _ (suc position) rest) work

pub choices_found : (rules : Rules) (seen : List Seen) (arms : Choices) (work : Work)
    → each_choice (found_choice rules seen) arms work ≡ reported (found_choices rules seen arms) work
choices_found rules seen no_choices work = refl
choices_found rules seen (more_choices cond value rest) work =
    ap (found_choice rules seen cond value) (choices_found rules seen rest work)
    ∙ ap (λ (reports : List Report). record work { reports = reports })
    (reports_of_three (found rules seen [] cond) (found rules seen [] value) (found_choices rules seen rest) work.reports)

item_found : (rules : Rules) (seen : List Seen) (item : Item) (rest : List Finding) (work : Work)
    → found_item rules seen item (reported rest work) ≡ reported (Rattle.report_rules.specs.Findings.found_item rules seen item ++ rest) work
item_found rules seen (Field name e) rest work = reported_both (found rules seen [] e) rest work
item_found rules seen (Keyed key e) rest work =
    ap (λ (reports : List Report). record work { reports = reports }) (reports_of_three (found rules seen [] key) (found rules seen [] e) rest work.reports)
item_found rules seen (Plain e) rest work = reported_both (found rules seen [] e) rest work

pub items_found : (rules : Rules) (seen : List Seen) (items : Items) (work : Work) → each_item (found_item rules seen) items work ≡ reported (found_items rules seen items) work
items_found rules seen no_items work = refl
items_found rules seen (more_items item rest) work =
    ap (found_item rules seen item) (items_found rules seen rest work) ∙ item_found rules seen item (found_items rules seen rest) work

-- ## The parts of each form

pub leaf_parts : (rules : Rules) (seen : List Seen) (how : Check) (id : ℕ) (span : Span) (kind : ExprKind) (work : Work)
    → ((of : Expr → List ReportKind) → found_in rules seen of kind ≡ []) → work ≡ found_parts_as rules seen how (the_expr id span kind) work
leaf_parts rules seen how id span kind work none = ap (λ (fs : List Finding). reported fs work) (sym (none (check_kinds rules seen (values_at_hand work) how)))

pub function_parts : (rules : Rules) (seen : List Seen) (how : Check) (id : ℕ) (span : Span) (body : Body) (work : Work)
    → with_body rules seen body work ≡ found_parts_as rules seen how (the_expr id span (FunctionExpr body)) work
function_parts rules seen how id span body work = refl

pub index_parts : (rules : Rules) (seen : List Seen) (how : Check) (id : ℕ) (span : Span) (base : Expr) (name : List ℕ) (work : Work)
    → found_as rules seen how base work ≡ found_parts_as rules seen how (the_expr id span (Index base name)) work
index_parts rules seen how id span base name work = refl

pub at_parts : (rules : Rules) (seen : List Seen) (how : Check) (id : ℕ) (span : Span) (base key : Expr) (work : Work)
    → found_as rules seen how base (found_as rules seen Unchecked key work) ≡ found_parts_as rules seen how (the_expr id span (At base key)) work
at_parts rules seen how id span base key work = reported_both (found rules seen (check_kinds rules seen (values_at_hand work) how base) base) (found rules seen [] key) work

pub call_parts : (rules : Rules) (seen : List Seen) (how : Check) (id : ℕ) (span : Span) (callee : Expr) (args : Exprs) (work : Work)
    → found_as rules seen Callee callee (each_arg (found_as rules seen) callee 0 args work) ≡ found_parts_as rules seen how (the_expr id span (Call callee args)) work
call_parts rules seen how id span callee args work =
    ap (found_as rules seen Callee callee) (args_found rules seen callee 0 args work)
    ∙ reported_both (found rules seen _ callee) (found_args rules seen _ 0 args) work

pub method_parts : (rules : Rules) (seen : List Seen) (how : Check) (id : ℕ) (span : Span) (base : Expr) (name : List ℕ) (name_span : Span) (args : Exprs) (work : Work)
    → found_as rules seen Base base (each (found_as rules seen Unchecked) args work) ≡ found_parts_as rules seen how (the_expr id span (Method base name name_span args)) work
method_parts rules seen how id span base name name_span args work =
    ap (found_as rules seen Base base) (parts_found rules seen args work) ∙ reported_both (found rules seen _ base) (found_parts rules seen args) work

pub paren_parts : (rules : Rules) (seen : List Seen) (how : Check) (id : ℕ) (span : Span) (e : Expr) (work : Work)
    → found_as rules seen Unchecked e work ≡ found_parts_as rules seen how (the_expr id span (Paren e)) work
paren_parts rules seen how id span e work = refl

pub assert_parts : (rules : Rules) (seen : List Seen) (how : Check) (id : ℕ) (span : Span) (e : Expr) (syntax : TypeSyntax) (work : Work)
    → found_as rules seen Unchecked e work ≡ found_parts_as rules seen how (the_expr id span (Assert e syntax)) work
assert_parts rules seen how id span e syntax work = refl

pub unary_parts : (rules : Rules) (seen : List Seen) (how : Check) (id : ℕ) (span : Span) (op : UnOp) (e : Expr) (work : Work)
    → found_as rules seen (UnaryOperand op) e work ≡ found_parts_as rules seen how (the_expr id span (Unary op e)) work
unary_parts rules seen how id span op e work = refl

pub binary_parts : (rules : Rules) (seen : List Seen) (how : Check) (id : ℕ) (span : Span) (op : BinOp) (left right : Expr) (work : Work)
    → found_as rules seen (SideBeside op right) left (found_as rules seen (SideBeside op left) right work) ≡ found_parts_as rules seen how (the_expr id span (Binary op left right)) work
binary_parts rules seen how id span op left right work = reported_both (found rules seen _ left) (found rules seen _ right) work

pub if_else_parts : (rules : Rules) (seen : List Seen) (how : Check) (id : ℕ) (span : Span) (arms : Choices) (last : Expr) (work : Work)
    → each_choice (found_choice rules seen) arms (found_as rules seen Unchecked last work) ≡ found_parts_as rules seen how (the_expr id span (IfElse arms last)) work
if_else_parts rules seen how id span arms last work =
    choices_found rules seen arms (found_as rules seen Unchecked last work) ∙ reported_both (found_choices rules seen arms) (found rules seen [] last) work

pub table_parts : (rules : Rules) (seen : List Seen) (how : Check) (id : ℕ) (span : Span) (items : Items) (work : Work)
    → each_item (found_item rules seen) items work ≡ found_parts_as rules seen how (the_expr id span (TableExpr items)) work
table_parts rules seen how id span items work = items_found rules seen items work

pub interp_parts : (rules : Rules) (seen : List Seen) (how : Check) (id : ℕ) (span : Span) (texts : List (List ℕ)) (parts : Exprs) (work : Work)
    → each (found_as rules seen Unchecked) parts work ≡ found_parts_as rules seen how (the_expr id span (Interp texts parts)) work
interp_parts rules seen how id span texts parts work = parts_found rules seen parts work

-- ## An expression by its place and its parts

abbrev base_kinds : List Seen → Bool → Expr → List ReportKind
base_kinds seen meant base = if meant then [] else index_kinds seen base

base_is : (rules : Rules) (seen : List Seen) (values : Context) (meant : Bool) → check_kinds rules seen values (base_check meant) ≡ base_kinds seen meant
base_is rules seen values true = refl
base_is rules seen values false = refl

pub found_form : (rules : Rules) (seen : List Seen) (check : Check) (e : Expr) (work : Work)
    → found_own rules seen check e (found_parts_as rules seen (read_check rules e) e work) ≡ found_as rules seen check e work
found_form rules seen check (the_expr id span kind) work =
    ap (λ (of : Expr → List ReportKind). found_own rules seen check (the_expr id span kind) (reported (found_in rules seen of kind) work))
    (base_is rules seen (values_at_hand work) (is_builtin (rules.reading.use_of id)))
    ∙ reported_both (_ ∷ []) (found_in rules seen (read_kinds seen (rules.reading.use_of id)) kind) work

-- ## Bodies

body_form : (rules : Rules) (seen : List Seen) (id : ℕ) (has_self : Bool) (generics : Gens) (params : Binds) (vararg : Varargs) (result : MaybeType) (block : Block) (span : Span) (work : Work)
    → (let body = the_body id has_self generics params vararg result block span in
    behind_restored (unlooped (with_params rules seen body (with_block rules seen block (apart work)))) ≡ with_body rules seen body work)
body_form rules seen id has_self generics params vararg result block span work =
    reported_both (found_params rules _ id 0 (stm_block rules seen block none none none) params) (found_block rules seen block none none none) work

-- the same, where a body is known by its parts
pub body_at : (rules : Rules) (seen : List Seen) (body : Body) (id : ℕ) (has_self : Bool) (generics : Gens) (params : Binds) (vararg : Varargs) (result : MaybeType) (block : Block) (span : Span) (work : Work)
    → body ≡ the_body id has_self generics params vararg result block span
    → behind_restored (unlooped (with_params rules seen body (with_block rules seen block (apart work)))) ≡ with_body rules seen body work
body_at rules seen body id has_self generics params vararg result block span work is =
    subst (λ (x : Body). behind_restored (unlooped (with_params rules seen x (with_block rules seen block (apart work)))) ≡ with_body rules seen x work)
    (sym is) (body_form rules seen id has_self generics params vararg result block span work)
