-- What the plain tree of each part is, by its parts. The proofs of the calls that make parts take these, and unfold no
-- view.
use Rattle.std.proofs.Common.{◌≡◌, ℕ, Bool, List, [], ◌∷◌, map, refl, sym, ap, ◌∙◌}
use Rattle.std.specs.Prelude.{Option, Some, None}
use Rattle.luau_tree.specs.declared.names.ExprId.{ExprId}
use Rattle.luau_tree.specs.declared.names.FnId.{FnId}
use Rattle.luau_tree.specs.declared.names.UnOp.{UnOp}
use Rattle.luau_tree.specs.declared.names.BinOp.{BinOp}
use Rattle.luau_tree.specs.declared.names.Access.{Access}
use Rattle.luau_tree.specs.declared.position.Span.{Span}
use Rattle.luau_tree.specs.declared.tree as code
use Rattle.luau_tree.specs.declared.tree.ExprKind.TheOpen as layer
use Rattle.luau_tree.specs.declared.tree.ExprKind.TheViews as part
use Rattle.luau_tree.specs.declared.tree.ExprKind.TheFolds as folds
use Rattle.luau_tree.specs.declared.tree.ExprKind.TheVariants as an_expr
use Rattle.luau_tree.specs.declared.tree.StatKind.TheVariants as a_stat
use Rattle.luau_tree.specs.declared.tree.TypeKind.TheVariants as a_type
use Rattle.luau_tree.specs.declared.tree.Item.TheVariants as an_item
use Rattle.luau_tree.specs.declared.tree.PropKey.TheVariants as a_key
use Rattle.luau_tree.specs.Tree as plain
use Rattle.luau_tree.specs.View as view
use Rattle.luau_tree.specs.View.{view_arm, view_arms, view_bind, view_binds, view_block, view_body, view_choice, view_choices, view_expr, view_expr_kind, view_exprs, view_gen, view_gens, view_item, view_items, view_maybe_block, view_maybe_expr, view_maybe_type, view_prop, view_prop_key, view_props, view_stat, view_stat_kind, view_stats, view_type, view_type_kind, view_types, view_varargs}

pub stats_seen : (xs : List code.Stat.Stat) → view.stats (map view_stat xs) ≡ view_stats xs
stats_seen [] = refl
stats_seen (x ∷ xs) = ap (plain.more_stats (view_stat x)) (stats_seen xs)

pub exprs_seen : (xs : List code.Expr.Expr) → view.exprs (map view_expr xs) ≡ view_exprs xs
exprs_seen [] = refl
exprs_seen (x ∷ xs) = ap (plain.more_exprs (view_expr x)) (exprs_seen xs)

pub items_seen : (xs : List code.Item.Item) → view.items (map view_item xs) ≡ view_items xs
items_seen [] = refl
items_seen (x ∷ xs) = ap (plain.more_items (view_item x)) (items_seen xs)

pub binds_seen : (xs : List code.Bind.Bind) → view.binds (map view_bind xs) ≡ view_binds xs
binds_seen [] = refl
binds_seen (x ∷ xs) = ap (plain.more_binds (view_bind x)) (binds_seen xs)

pub gens_seen : (xs : List code.Gen.Gen) → view.gens (map view_gen xs) ≡ view_gens xs
gens_seen [] = refl
gens_seen (x ∷ xs) = ap (plain.more_gens (view_gen x)) (gens_seen xs)

pub types_seen : (xs : List code.TypeSyntax.TypeSyntax) → view.types (map view_type xs) ≡ view_types xs
types_seen [] = refl
types_seen (x ∷ xs) = ap (plain.more_types (view_type x)) (types_seen xs)

pub props_seen : (xs : List code.Prop.Prop) → view.props (map view_prop xs) ≡ view_props xs
props_seen [] = refl
props_seen (x ∷ xs) = ap (plain.more_props (view_prop x)) (props_seen xs)

pub arms_seen : (xs : List code.Arm.Arm) → view.arms (map view_arm xs) ≡ view_arms xs
arms_seen [] = refl
arms_seen (x ∷ xs) = ap (plain.more_arms (view_arm x).0 (view_arm x).1) (arms_seen xs)

pub choices_seen : (xs : List code.Choice.Choice) → view.choices (map view_choice xs) ≡ view_choices xs
choices_seen [] = refl
choices_seen (x ∷ xs) = ap (plain.more_choices (view_choice x).0 (view_choice x).1) (choices_seen xs)

pub nil_expr_seen : view_expr_kind an_expr.Nil ≡ plain.NilExpr
unfolding view_expr_kind
nil_expr_seen = ap view_expr_kind (sym an_expr.rolls-Nil) ∙ folds.fold-roll-ExprKind _ _ _ _ _ _ _ _ _ _ _ _ _ _ _ _ _ _ _ _ _ _ _ _ _ _ _ _ _ _ layer.«ExprKind::Nil»

pub true_expr_seen : view_expr_kind an_expr.True ≡ plain.TrueExpr
unfolding view_expr_kind
true_expr_seen = ap view_expr_kind (sym an_expr.rolls-True) ∙ folds.fold-roll-ExprKind _ _ _ _ _ _ _ _ _ _ _ _ _ _ _ _ _ _ _ _ _ _ _ _ _ _ _ _ _ _ layer.True

pub false_expr_seen : view_expr_kind an_expr.False ≡ plain.FalseExpr
unfolding view_expr_kind
false_expr_seen = ap view_expr_kind (sym an_expr.rolls-False) ∙ folds.fold-roll-ExprKind _ _ _ _ _ _ _ _ _ _ _ _ _ _ _ _ _ _ _ _ _ _ _ _ _ _ _ _ _ _ layer.False

pub number_expr_seen : (text : List ℕ) → view_expr_kind (an_expr.Number text) ≡ plain.NumberExpr text
unfolding view_expr_kind
number_expr_seen text = ap view_expr_kind (sym (an_expr.rolls-Number text)) ∙ folds.fold-roll-ExprKind _ _ _ _ _ _ _ _ _ _ _ _ _ _ _ _ _ _ _ _ _ _ _ _ _ _ _ _ _ _ (layer.Number text)

pub str_expr_seen : (bytes : List ℕ) → view_expr_kind (an_expr.Str bytes) ≡ plain.StrExpr bytes
unfolding view_expr_kind
str_expr_seen bytes = ap view_expr_kind (sym (an_expr.rolls-Str bytes)) ∙ folds.fold-roll-ExprKind _ _ _ _ _ _ _ _ _ _ _ _ _ _ _ _ _ _ _ _ _ _ _ _ _ _ _ _ _ _ (layer.«ExprKind::Str» bytes)

pub vararg_expr_seen : view_expr_kind an_expr.Vararg ≡ plain.Vararg
unfolding view_expr_kind
vararg_expr_seen = ap view_expr_kind (sym an_expr.rolls-Vararg) ∙ folds.fold-roll-ExprKind _ _ _ _ _ _ _ _ _ _ _ _ _ _ _ _ _ _ _ _ _ _ _ _ _ _ _ _ _ _ layer.Vararg

pub function_expr_seen : (body : code.Body.Body) → view_expr_kind (an_expr.Function body) ≡ plain.FunctionExpr (view_body body)
unfolding view_expr_kind view_body
function_expr_seen body = ap view_expr_kind (sym (an_expr.rolls-Function body)) ∙ folds.fold-roll-ExprKind _ _ _ _ _ _ _ _ _ _ _ _ _ _ _ _ _ _ _ _ _ _ _ _ _ _ _ _ _ _ (layer.«ExprKind::Function» body)

pub name_expr_seen : (name : List ℕ) → view_expr_kind (an_expr.Name name) ≡ plain.NameExpr name
unfolding view_expr_kind
name_expr_seen name = ap view_expr_kind (sym (an_expr.rolls-Name name)) ∙ folds.fold-roll-ExprKind _ _ _ _ _ _ _ _ _ _ _ _ _ _ _ _ _ _ _ _ _ _ _ _ _ _ _ _ _ _ (layer.«ExprKind::Name» name)

pub index_expr_seen : (base : code.Expr.Expr) (name : List ℕ) → view_expr_kind (an_expr.Index base name) ≡ plain.Index (view_expr base) name
unfolding view_expr_kind view_expr
index_expr_seen base name = ap view_expr_kind (sym (an_expr.rolls-Index base name)) ∙ folds.fold-roll-ExprKind _ _ _ _ _ _ _ _ _ _ _ _ _ _ _ _ _ _ _ _ _ _ _ _ _ _ _ _ _ _ (layer.Index base name)

pub at_expr_seen : (base : code.Expr.Expr) (key : code.Expr.Expr) → view_expr_kind (an_expr.At base key) ≡ plain.At (view_expr base) (view_expr key)
unfolding view_expr_kind view_expr
at_expr_seen base key = ap view_expr_kind (sym (an_expr.rolls-At base key)) ∙ folds.fold-roll-ExprKind _ _ _ _ _ _ _ _ _ _ _ _ _ _ _ _ _ _ _ _ _ _ _ _ _ _ _ _ _ _ (layer.At base key)

pub call_expr_seen : (callee : code.Expr.Expr) (args : List code.Expr.Expr) → view_expr_kind (an_expr.Call callee args) ≡ plain.Call (view_expr callee) (view_exprs args)
unfolding view_expr_kind view_expr
call_expr_seen callee args = ap view_expr_kind (sym (an_expr.rolls-Call callee args)) ∙ folds.fold-roll-ExprKind _ _ _ _ _ _ _ _ _ _ _ _ _ _ _ _ _ _ _ _ _ _ _ _ _ _ _ _ _ _ (layer.Call callee args) ∙ (λ i. plain.Call (view_expr callee) (exprs_seen args i))

pub method_expr_seen : (base : code.Expr.Expr) (name : List ℕ) (name_span : Span) (args : List code.Expr.Expr) → view_expr_kind (an_expr.Method base name name_span args) ≡ plain.Method (view_expr base) name name_span (view_exprs args)
unfolding view_expr_kind view_expr
method_expr_seen base name name_span args = ap view_expr_kind (sym (an_expr.rolls-Method base name name_span args)) ∙ folds.fold-roll-ExprKind _ _ _ _ _ _ _ _ _ _ _ _ _ _ _ _ _ _ _ _ _ _ _ _ _ _ _ _ _ _ (layer.Method base name name_span args) ∙ (λ i. plain.Method (view_expr base) name name_span (exprs_seen args i))

pub paren_expr_seen : (e : code.Expr.Expr) → view_expr_kind (an_expr.Paren e) ≡ plain.Paren (view_expr e)
unfolding view_expr_kind view_expr
paren_expr_seen e = ap view_expr_kind (sym (an_expr.rolls-Paren e)) ∙ folds.fold-roll-ExprKind _ _ _ _ _ _ _ _ _ _ _ _ _ _ _ _ _ _ _ _ _ _ _ _ _ _ _ _ _ _ (layer.Paren e)

pub unary_expr_seen : (op : UnOp) (e : code.Expr.Expr) → view_expr_kind (an_expr.Unary op e) ≡ plain.Unary op (view_expr e)
unfolding view_expr_kind view_expr
unary_expr_seen op e = ap view_expr_kind (sym (an_expr.rolls-Unary op e)) ∙ folds.fold-roll-ExprKind _ _ _ _ _ _ _ _ _ _ _ _ _ _ _ _ _ _ _ _ _ _ _ _ _ _ _ _ _ _ (layer.Unary op e)

pub binary_expr_seen : (op : BinOp) (left : code.Expr.Expr) (right : code.Expr.Expr) → view_expr_kind (an_expr.Binary op left right) ≡ plain.Binary op (view_expr left) (view_expr right)
unfolding view_expr_kind view_expr
binary_expr_seen op left right = ap view_expr_kind (sym (an_expr.rolls-Binary op left right)) ∙ folds.fold-roll-ExprKind _ _ _ _ _ _ _ _ _ _ _ _ _ _ _ _ _ _ _ _ _ _ _ _ _ _ _ _ _ _ (layer.Binary op left right)

pub if_else_expr_seen : (arms : List code.Choice.Choice) (last : code.Expr.Expr) → view_expr_kind (an_expr.IfElse arms last) ≡ plain.IfElse (view_choices arms) (view_expr last)
unfolding view_expr_kind view_choice view_expr
if_else_expr_seen arms last = ap view_expr_kind (sym (an_expr.rolls-IfElse arms last)) ∙ folds.fold-roll-ExprKind _ _ _ _ _ _ _ _ _ _ _ _ _ _ _ _ _ _ _ _ _ _ _ _ _ _ _ _ _ _ (layer.IfElse arms last) ∙ (λ i. plain.IfElse (choices_seen arms i) (view_expr last))

pub table_expr_seen : (items : List code.Item.Item) → view_expr_kind (an_expr.Table items) ≡ plain.TableExpr (view_items items)
unfolding view_expr_kind view_item
table_expr_seen items = ap view_expr_kind (sym (an_expr.rolls-Table items)) ∙ folds.fold-roll-ExprKind _ _ _ _ _ _ _ _ _ _ _ _ _ _ _ _ _ _ _ _ _ _ _ _ _ _ _ _ _ _ (layer.«ExprKind::Table» items) ∙ (λ i. plain.TableExpr (items_seen items i))

pub interp_expr_seen : (texts : List (List ℕ)) (parts : List code.Expr.Expr) → view_expr_kind (an_expr.Interp texts parts) ≡ plain.Interp texts (view_exprs parts)
unfolding view_expr_kind view_expr
interp_expr_seen texts parts = ap view_expr_kind (sym (an_expr.rolls-Interp texts parts)) ∙ folds.fold-roll-ExprKind _ _ _ _ _ _ _ _ _ _ _ _ _ _ _ _ _ _ _ _ _ _ _ _ _ _ _ _ _ _ (layer.Interp texts parts) ∙ (λ i. plain.Interp texts (exprs_seen parts i))

pub assert_expr_seen : (e : code.Expr.Expr) (typ : code.TypeSyntax.TypeSyntax) → view_expr_kind (an_expr.Assert e typ) ≡ plain.Assert (view_expr e) (view_type typ)
unfolding view_expr_kind view_expr view_type
assert_expr_seen e typ = ap view_expr_kind (sym (an_expr.rolls-Assert e typ)) ∙ folds.fold-roll-ExprKind _ _ _ _ _ _ _ _ _ _ _ _ _ _ _ _ _ _ _ _ _ _ _ _ _ _ _ _ _ _ (layer.Assert e typ)

pub assign_stat_seen : (targets : List code.Expr.Expr) (values : List code.Expr.Expr) → view_stat_kind (a_stat.Assign targets values) ≡ plain.Assign (view_exprs targets) (view_exprs values)
unfolding view_stat_kind view_expr
assign_stat_seen targets values = ap view_stat_kind (sym (a_stat.rolls-Assign targets values)) ∙ folds.fold-roll-StatKind _ _ _ _ _ _ _ _ _ _ _ _ _ _ _ _ _ _ _ _ _ _ _ _ _ _ _ _ _ _ (layer.Assign targets values) ∙ (λ i. plain.Assign (exprs_seen targets i) (exprs_seen values i))

pub compound_stat_seen : (target : code.Expr.Expr) (op : BinOp) (value : code.Expr.Expr) → view_stat_kind (a_stat.Compound target op value) ≡ plain.Compound (view_expr target) op (view_expr value)
unfolding view_stat_kind view_expr
compound_stat_seen target op value = ap view_stat_kind (sym (a_stat.rolls-Compound target op value)) ∙ folds.fold-roll-StatKind _ _ _ _ _ _ _ _ _ _ _ _ _ _ _ _ _ _ _ _ _ _ _ _ _ _ _ _ _ _ (layer.Compound target op value)

pub call_stat_seen : (call : code.Expr.Expr) → view_stat_kind (a_stat.CallStat call) ≡ plain.CallStat (view_expr call)
unfolding view_stat_kind view_expr
call_stat_seen call = ap view_stat_kind (sym (a_stat.rolls-CallStat call)) ∙ folds.fold-roll-StatKind _ _ _ _ _ _ _ _ _ _ _ _ _ _ _ _ _ _ _ _ _ _ _ _ _ _ _ _ _ _ (layer.CallStat call)

pub do_stat_seen : (body : code.Block.Block) → view_stat_kind (a_stat.Do body) ≡ plain.Do (view_block body)
unfolding view_stat_kind view_block
do_stat_seen body = ap view_stat_kind (sym (a_stat.rolls-Do body)) ∙ folds.fold-roll-StatKind _ _ _ _ _ _ _ _ _ _ _ _ _ _ _ _ _ _ _ _ _ _ _ _ _ _ _ _ _ _ (layer.Do body)

pub while_stat_seen : (cond : code.Expr.Expr) (body : code.Block.Block) → view_stat_kind (a_stat.While cond body) ≡ plain.While (view_expr cond) (view_block body)
unfolding view_stat_kind view_expr view_block
while_stat_seen cond body = ap view_stat_kind (sym (a_stat.rolls-While cond body)) ∙ folds.fold-roll-StatKind _ _ _ _ _ _ _ _ _ _ _ _ _ _ _ _ _ _ _ _ _ _ _ _ _ _ _ _ _ _ (layer.While cond body)

pub repeat_stat_seen : (body : code.Block.Block) (cond : code.Expr.Expr) → view_stat_kind (a_stat.Repeat body cond) ≡ plain.Repeat (view_block body) (view_expr cond)
unfolding view_stat_kind view_block view_expr
repeat_stat_seen body cond = ap view_stat_kind (sym (a_stat.rolls-Repeat body cond)) ∙ folds.fold-roll-StatKind _ _ _ _ _ _ _ _ _ _ _ _ _ _ _ _ _ _ _ _ _ _ _ _ _ _ _ _ _ _ (layer.Repeat body cond)

pub if_stat_seen : (arms : List code.Arm.Arm) (last : Option code.Block.Block) → view_stat_kind (a_stat.If arms last) ≡ plain.If (view_arms arms) (view_maybe_block last)
unfolding view_stat_kind view_arm view_block
if_stat_seen arms None = ap view_stat_kind (sym (a_stat.rolls-If arms None)) ∙ folds.fold-roll-StatKind _ _ _ _ _ _ _ _ _ _ _ _ _ _ _ _ _ _ _ _ _ _ _ _ _ _ _ _ _ _ (layer.If arms None) ∙ (λ i. plain.If (arms_seen arms i) plain.no_block)
if_stat_seen arms (Some x) = ap view_stat_kind (sym (a_stat.rolls-If arms (Some x))) ∙ folds.fold-roll-StatKind _ _ _ _ _ _ _ _ _ _ _ _ _ _ _ _ _ _ _ _ _ _ _ _ _ _ _ _ _ _ (layer.If arms (Some x)) ∙ (λ i. plain.If (arms_seen arms i) (plain.a_block (view_block x)))

pub num_for_stat_seen : (bind : code.Bind.Bind) (from : code.Expr.Expr) (to : code.Expr.Expr) (step : Option code.Expr.Expr) (body : code.Block.Block) → view_stat_kind (a_stat.NumFor bind from to step body) ≡ plain.NumFor (view_bind bind) (view_expr from) (view_expr to) (view_maybe_expr step) (view_block body)
unfolding view_stat_kind view_bind view_expr view_block
num_for_stat_seen bind from to None body = ap view_stat_kind (sym (a_stat.rolls-NumFor bind from to None body)) ∙ folds.fold-roll-StatKind _ _ _ _ _ _ _ _ _ _ _ _ _ _ _ _ _ _ _ _ _ _ _ _ _ _ _ _ _ _ (layer.NumFor bind from to None body) ∙ (λ i. plain.NumFor (view_bind bind) (view_expr from) (view_expr to) plain.no_expr (view_block body))
num_for_stat_seen bind from to (Some x) body = ap view_stat_kind (sym (a_stat.rolls-NumFor bind from to (Some x) body)) ∙ folds.fold-roll-StatKind _ _ _ _ _ _ _ _ _ _ _ _ _ _ _ _ _ _ _ _ _ _ _ _ _ _ _ _ _ _ (layer.NumFor bind from to (Some x) body) ∙ (λ i. plain.NumFor (view_bind bind) (view_expr from) (view_expr to) (plain.an_expr (view_expr x)) (view_block body))

pub gen_for_stat_seen : (binds : List code.Bind.Bind) (values : List code.Expr.Expr) (body : code.Block.Block) → view_stat_kind (a_stat.GenFor binds values body) ≡ plain.GenFor (view_binds binds) (view_exprs values) (view_block body)
unfolding view_stat_kind view_bind view_expr view_block
gen_for_stat_seen binds values body = ap view_stat_kind (sym (a_stat.rolls-GenFor binds values body)) ∙ folds.fold-roll-StatKind _ _ _ _ _ _ _ _ _ _ _ _ _ _ _ _ _ _ _ _ _ _ _ _ _ _ _ _ _ _ (layer.GenFor binds values body) ∙ (λ i. plain.GenFor (binds_seen binds i) (exprs_seen values i) (view_block body))

pub function_stat_seen : (path : code.Expr.Expr) (method : Option (List ℕ)) (body : code.Body.Body) → view_stat_kind (a_stat.Function path method body) ≡ plain.FunctionStat (view_expr path) method (view_body body)
unfolding view_stat_kind view_expr view_body
function_stat_seen path method body = ap view_stat_kind (sym (a_stat.rolls-Function path method body)) ∙ folds.fold-roll-StatKind _ _ _ _ _ _ _ _ _ _ _ _ _ _ _ _ _ _ _ _ _ _ _ _ _ _ _ _ _ _ (layer.«StatKind::Function» path method body)

pub local_function_stat_seen : (name : code.Bind.Bind) (body : code.Body.Body) → view_stat_kind (a_stat.LocalFunction name body) ≡ plain.LocalFunction (view_bind name) (view_body body)
unfolding view_stat_kind view_bind view_body
local_function_stat_seen name body = ap view_stat_kind (sym (a_stat.rolls-LocalFunction name body)) ∙ folds.fold-roll-StatKind _ _ _ _ _ _ _ _ _ _ _ _ _ _ _ _ _ _ _ _ _ _ _ _ _ _ _ _ _ _ (layer.LocalFunction name body)

pub local_stat_seen : (binds : List code.Bind.Bind) (values : List code.Expr.Expr) → view_stat_kind (a_stat.Local binds values) ≡ plain.Local (view_binds binds) (view_exprs values)
unfolding view_stat_kind view_bind view_expr
local_stat_seen binds values = ap view_stat_kind (sym (a_stat.rolls-Local binds values)) ∙ folds.fold-roll-StatKind _ _ _ _ _ _ _ _ _ _ _ _ _ _ _ _ _ _ _ _ _ _ _ _ _ _ _ _ _ _ (layer.Local binds values) ∙ (λ i. plain.Local (binds_seen binds i) (exprs_seen values i))

pub type_alias_stat_seen : (exported : Bool) (name : List ℕ) (generics : List code.Gen.Gen) (typ : code.TypeSyntax.TypeSyntax) → view_stat_kind (a_stat.TypeAlias exported name generics typ) ≡ plain.TypeAlias exported name (view_gens generics) (view_type typ)
unfolding view_stat_kind view_gen view_type
type_alias_stat_seen exported name generics typ = ap view_stat_kind (sym (a_stat.rolls-TypeAlias exported name generics typ)) ∙ folds.fold-roll-StatKind _ _ _ _ _ _ _ _ _ _ _ _ _ _ _ _ _ _ _ _ _ _ _ _ _ _ _ _ _ _ (layer.TypeAlias exported name generics typ) ∙ (λ i. plain.TypeAlias exported name (gens_seen generics i) (view_type typ))

pub type_function_stat_seen : (exported : Bool) (name : List ℕ) (body : code.Body.Body) → view_stat_kind (a_stat.TypeFunction exported name body) ≡ plain.TypeFunction exported name (view_body body)
unfolding view_stat_kind view_body
type_function_stat_seen exported name body = ap view_stat_kind (sym (a_stat.rolls-TypeFunction exported name body)) ∙ folds.fold-roll-StatKind _ _ _ _ _ _ _ _ _ _ _ _ _ _ _ _ _ _ _ _ _ _ _ _ _ _ _ _ _ _ (layer.TypeFunction exported name body)

pub return_stat_seen : (values : List code.Expr.Expr) → view_stat_kind (a_stat.Return values) ≡ plain.Return (view_exprs values)
unfolding view_stat_kind view_expr
return_stat_seen values = ap view_stat_kind (sym (a_stat.rolls-Return values)) ∙ folds.fold-roll-StatKind _ _ _ _ _ _ _ _ _ _ _ _ _ _ _ _ _ _ _ _ _ _ _ _ _ _ _ _ _ _ (layer.Return values) ∙ (λ i. plain.Return (exprs_seen values i))

pub break_stat_seen : view_stat_kind a_stat.Break ≡ plain.Break
unfolding view_stat_kind
break_stat_seen = ap view_stat_kind (sym a_stat.rolls-Break) ∙ folds.fold-roll-StatKind _ _ _ _ _ _ _ _ _ _ _ _ _ _ _ _ _ _ _ _ _ _ _ _ _ _ _ _ _ _ layer.Break

pub continue_stat_seen : view_stat_kind a_stat.Continue ≡ plain.Continue
unfolding view_stat_kind
continue_stat_seen = ap view_stat_kind (sym a_stat.rolls-Continue) ∙ folds.fold-roll-StatKind _ _ _ _ _ _ _ _ _ _ _ _ _ _ _ _ _ _ _ _ _ _ _ _ _ _ _ _ _ _ layer.Continue

pub nil_type_seen : view_type_kind a_type.Nil ≡ plain.NilType
unfolding view_type_kind
nil_type_seen = ap view_type_kind (sym a_type.rolls-Nil) ∙ folds.fold-roll-TypeKind _ _ _ _ _ _ _ _ _ _ _ _ _ _ _ _ _ _ _ _ _ _ _ _ _ _ _ _ _ _ layer.«TypeKind::Nil»

pub bool_type_seen : (truth : Bool) → view_type_kind (a_type.Bool truth) ≡ plain.BoolType truth
unfolding view_type_kind
bool_type_seen truth = ap view_type_kind (sym (a_type.rolls-Bool truth)) ∙ folds.fold-roll-TypeKind _ _ _ _ _ _ _ _ _ _ _ _ _ _ _ _ _ _ _ _ _ _ _ _ _ _ _ _ _ _ (layer.Bool truth)

pub str_type_seen : (bytes : List ℕ) → view_type_kind (a_type.Str bytes) ≡ plain.StrType bytes
unfolding view_type_kind
str_type_seen bytes = ap view_type_kind (sym (a_type.rolls-Str bytes)) ∙ folds.fold-roll-TypeKind _ _ _ _ _ _ _ _ _ _ _ _ _ _ _ _ _ _ _ _ _ _ _ _ _ _ _ _ _ _ (layer.«TypeKind::Str» bytes)

pub named_type_seen : (prefix : Option (List ℕ)) (name : List ℕ) (args : List code.TypeSyntax.TypeSyntax) → view_type_kind (a_type.Named prefix name args) ≡ plain.Named prefix name (view_types args)
unfolding view_type_kind view_type
named_type_seen prefix name args = ap view_type_kind (sym (a_type.rolls-Named prefix name args)) ∙ folds.fold-roll-TypeKind _ _ _ _ _ _ _ _ _ _ _ _ _ _ _ _ _ _ _ _ _ _ _ _ _ _ _ _ _ _ (layer.Named prefix name args) ∙ (λ i. plain.Named prefix name (types_seen args i))

pub typeof_type_seen : (e : code.Expr.Expr) → view_type_kind (a_type.Typeof e) ≡ plain.Typeof (view_expr e)
unfolding view_type_kind view_expr
typeof_type_seen e = ap view_type_kind (sym (a_type.rolls-Typeof e)) ∙ folds.fold-roll-TypeKind _ _ _ _ _ _ _ _ _ _ _ _ _ _ _ _ _ _ _ _ _ _ _ _ _ _ _ _ _ _ (layer.Typeof e)

pub array_type_seen : (item : code.TypeSyntax.TypeSyntax) → view_type_kind (a_type.Array item) ≡ plain.Array (view_type item)
unfolding view_type_kind view_type
array_type_seen item = ap view_type_kind (sym (a_type.rolls-Array item)) ∙ folds.fold-roll-TypeKind _ _ _ _ _ _ _ _ _ _ _ _ _ _ _ _ _ _ _ _ _ _ _ _ _ _ _ _ _ _ (layer.Array item)

pub table_type_seen : (props : List code.Prop.Prop) → view_type_kind (a_type.Table props) ≡ plain.TableType (view_props props)
unfolding view_type_kind view_prop
table_type_seen props = ap view_type_kind (sym (a_type.rolls-Table props)) ∙ folds.fold-roll-TypeKind _ _ _ _ _ _ _ _ _ _ _ _ _ _ _ _ _ _ _ _ _ _ _ _ _ _ _ _ _ _ (layer.«TypeKind::Table» props) ∙ (λ i. plain.TableType (props_seen props i))

pub func_type_seen : (generics : List code.Gen.Gen) (params : List code.TypeSyntax.TypeSyntax) (returned : code.TypeSyntax.TypeSyntax) → view_type_kind (a_type.Func generics params returned) ≡ plain.Func (view_gens generics) (view_types params) (view_type returned)
unfolding view_type_kind view_gen view_type
func_type_seen generics params returned = ap view_type_kind (sym (a_type.rolls-Func generics params returned)) ∙ folds.fold-roll-TypeKind _ _ _ _ _ _ _ _ _ _ _ _ _ _ _ _ _ _ _ _ _ _ _ _ _ _ _ _ _ _ (layer.Func generics params returned) ∙ (λ i. plain.Func (gens_seen generics i) (types_seen params i) (view_type returned))

pub union_type_seen : (types : List code.TypeSyntax.TypeSyntax) → view_type_kind (a_type.Union types) ≡ plain.Union (view_types types)
unfolding view_type_kind view_type
union_type_seen types = ap view_type_kind (sym (a_type.rolls-Union types)) ∙ folds.fold-roll-TypeKind _ _ _ _ _ _ _ _ _ _ _ _ _ _ _ _ _ _ _ _ _ _ _ _ _ _ _ _ _ _ (layer.Union types) ∙ (λ i. plain.Union (types_seen types i))

pub meet_type_seen : (types : List code.TypeSyntax.TypeSyntax) → view_type_kind (a_type.Meet types) ≡ plain.Meet (view_types types)
unfolding view_type_kind view_type
meet_type_seen types = ap view_type_kind (sym (a_type.rolls-Meet types)) ∙ folds.fold-roll-TypeKind _ _ _ _ _ _ _ _ _ _ _ _ _ _ _ _ _ _ _ _ _ _ _ _ _ _ _ _ _ _ (layer.Meet types) ∙ (λ i. plain.Meet (types_seen types i))

pub optional_type_seen : (typ : code.TypeSyntax.TypeSyntax) → view_type_kind (a_type.Optional typ) ≡ plain.Optional (view_type typ)
unfolding view_type_kind view_type
optional_type_seen typ = ap view_type_kind (sym (a_type.rolls-Optional typ)) ∙ folds.fold-roll-TypeKind _ _ _ _ _ _ _ _ _ _ _ _ _ _ _ _ _ _ _ _ _ _ _ _ _ _ _ _ _ _ (layer.Optional typ)

pub pack_type_seen : (types : List code.TypeSyntax.TypeSyntax) → view_type_kind (a_type.Pack types) ≡ plain.Pack (view_types types)
unfolding view_type_kind view_type
pack_type_seen types = ap view_type_kind (sym (a_type.rolls-Pack types)) ∙ folds.fold-roll-TypeKind _ _ _ _ _ _ _ _ _ _ _ _ _ _ _ _ _ _ _ _ _ _ _ _ _ _ _ _ _ _ (layer.Pack types) ∙ (λ i. plain.Pack (types_seen types i))

pub variadic_type_seen : (typ : code.TypeSyntax.TypeSyntax) → view_type_kind (a_type.Variadic typ) ≡ plain.Variadic (view_type typ)
unfolding view_type_kind view_type
variadic_type_seen typ = ap view_type_kind (sym (a_type.rolls-Variadic typ)) ∙ folds.fold-roll-TypeKind _ _ _ _ _ _ _ _ _ _ _ _ _ _ _ _ _ _ _ _ _ _ _ _ _ _ _ _ _ _ (layer.Variadic typ)

pub generic_pack_type_seen : (name : List ℕ) → view_type_kind (a_type.GenericPack name) ≡ plain.GenericPack name
unfolding view_type_kind
generic_pack_type_seen name = ap view_type_kind (sym (a_type.rolls-GenericPack name)) ∙ folds.fold-roll-TypeKind _ _ _ _ _ _ _ _ _ _ _ _ _ _ _ _ _ _ _ _ _ _ _ _ _ _ _ _ _ _ (layer.GenericPack name)

pub field_item_seen : (name : List ℕ) (value : code.Expr.Expr) → view_item (an_item.Field name value) ≡ plain.Field name (view_expr value)
unfolding view_item view_expr
field_item_seen name value = ap view_item (sym (an_item.rolls-Field name value)) ∙ folds.fold-roll-Item _ _ _ _ _ _ _ _ _ _ _ _ _ _ _ _ _ _ _ _ _ _ _ _ _ _ _ _ _ _ (layer.Field name value)

pub keyed_item_seen : (key : code.Expr.Expr) (value : code.Expr.Expr) → view_item (an_item.Keyed key value) ≡ plain.Keyed (view_expr key) (view_expr value)
unfolding view_item view_expr
keyed_item_seen key value = ap view_item (sym (an_item.rolls-Keyed key value)) ∙ folds.fold-roll-Item _ _ _ _ _ _ _ _ _ _ _ _ _ _ _ _ _ _ _ _ _ _ _ _ _ _ _ _ _ _ (layer.Keyed key value)

pub plain_item_seen : (value : code.Expr.Expr) → view_item (an_item.Plain value) ≡ plain.Plain (view_expr value)
unfolding view_item view_expr
plain_item_seen value = ap view_item (sym (an_item.rolls-Plain value)) ∙ folds.fold-roll-Item _ _ _ _ _ _ _ _ _ _ _ _ _ _ _ _ _ _ _ _ _ _ _ _ _ _ _ _ _ _ (layer.Plain value)

pub name_key_seen : (name : List ℕ) → view_prop_key (a_key.Name name) ≡ plain.NameKey name
unfolding view_prop_key
name_key_seen name = ap view_prop_key (sym (a_key.rolls-Name name)) ∙ folds.fold-roll-PropKey _ _ _ _ _ _ _ _ _ _ _ _ _ _ _ _ _ _ _ _ _ _ _ _ _ _ _ _ _ _ (layer.«PropKey::Name» name)

pub indexer_key_seen : (key : code.TypeSyntax.TypeSyntax) → view_prop_key (a_key.Indexer key) ≡ plain.Indexer (view_type key)
unfolding view_prop_key view_type
indexer_key_seen key = ap view_prop_key (sym (a_key.rolls-Indexer key)) ∙ folds.fold-roll-PropKey _ _ _ _ _ _ _ _ _ _ _ _ _ _ _ _ _ _ _ _ _ _ _ _ _ _ _ _ _ _ (layer.Indexer key)

pub expr_seen : (id : ExprId) (span : Span) (kind : code.ExprKind.ExprKind) → view_expr (part.roll-Expr record { id = id; span = span; kind = kind }) ≡ plain.the_expr id.0 span (view_expr_kind kind)
unfolding view_expr view_expr_kind
expr_seen id span kind = folds.fold-roll-Expr _ _ _ _ _ _ _ _ _ _ _ _ _ _ _ _ _ _ _ _ _ _ _ _ _ _ _ _ _ _ record { id = id; span = span; kind = kind }

pub stat_seen : (span : Span) (kind : code.StatKind.StatKind) → view_stat (part.roll-Stat record { span = span; kind = kind }) ≡ plain.the_stat span (view_stat_kind kind)
unfolding view_stat view_stat_kind
stat_seen span kind = folds.fold-roll-Stat _ _ _ _ _ _ _ _ _ _ _ _ _ _ _ _ _ _ _ _ _ _ _ _ _ _ _ _ _ _ record { span = span; kind = kind }

pub type_seen : (span : Span) (kind : code.TypeKind.TypeKind) → view_type (part.roll-TypeSyntax record { span = span; kind = kind }) ≡ plain.the_type span (view_type_kind kind)
unfolding view_type view_type_kind
type_seen span kind = folds.fold-roll-TypeSyntax _ _ _ _ _ _ _ _ _ _ _ _ _ _ _ _ _ _ _ _ _ _ _ _ _ _ _ _ _ _ record { span = span; kind = kind }

pub block_seen : (stats : List code.Stat.Stat) → view_block (part.roll-Block record { stats = stats }) ≡ view_stats stats
unfolding view_block view_stat
block_seen stats = folds.fold-roll-Block _ _ _ _ _ _ _ _ _ _ _ _ _ _ _ _ _ _ _ _ _ _ _ _ _ _ _ _ _ _ record { stats = stats } ∙ (stats_seen stats)

pub arm_seen : (cond : code.Expr.Expr) (block : code.Block.Block) → view_arm (part.roll-Arm record { cond = cond; block = block }) ≡ (view_expr cond, view_block block)
unfolding view_arm view_expr view_block
arm_seen cond block = folds.fold-roll-Arm _ _ _ _ _ _ _ _ _ _ _ _ _ _ _ _ _ _ _ _ _ _ _ _ _ _ _ _ _ _ record { cond = cond; block = block }

pub choice_seen : (cond : code.Expr.Expr) (value : code.Expr.Expr) → view_choice (part.roll-Choice record { cond = cond; value = value }) ≡ (view_expr cond, view_expr value)
unfolding view_choice view_expr
choice_seen cond value = folds.fold-roll-Choice _ _ _ _ _ _ _ _ _ _ _ _ _ _ _ _ _ _ _ _ _ _ _ _ _ _ _ _ _ _ record { cond = cond; value = value }

pub bind_seen : (name : List ℕ) (span : Span) (typ : Option code.TypeSyntax.TypeSyntax) → view_bind (part.roll-Bind record { name = name; span = span; typ = typ }) ≡ plain.the_bind name span (view_maybe_type typ)
unfolding view_bind view_type
bind_seen name span None = folds.fold-roll-Bind _ _ _ _ _ _ _ _ _ _ _ _ _ _ _ _ _ _ _ _ _ _ _ _ _ _ _ _ _ _ record { name = name; span = span; typ = None } ∙ (λ i. plain.the_bind name span plain.no_type)
bind_seen name span (Some x) = folds.fold-roll-Bind _ _ _ _ _ _ _ _ _ _ _ _ _ _ _ _ _ _ _ _ _ _ _ _ _ _ _ _ _ _ record { name = name; span = span; typ = (Some x) } ∙ (λ i. plain.the_bind name span (plain.a_type (view_type x)))

pub gen_seen : (name : List ℕ) (span : Span) (pack : Bool) (default : Option code.TypeSyntax.TypeSyntax) → view_gen (part.roll-Gen record { name = name; span = span; pack = pack; default = default }) ≡ plain.the_gen name span pack (view_maybe_type default)
unfolding view_gen view_type
gen_seen name span pack None = folds.fold-roll-Gen _ _ _ _ _ _ _ _ _ _ _ _ _ _ _ _ _ _ _ _ _ _ _ _ _ _ _ _ _ _ record { name = name; span = span; pack = pack; default = None } ∙ (λ i. plain.the_gen name span pack plain.no_type)
gen_seen name span pack (Some x) = folds.fold-roll-Gen _ _ _ _ _ _ _ _ _ _ _ _ _ _ _ _ _ _ _ _ _ _ _ _ _ _ _ _ _ _ record { name = name; span = span; pack = pack; default = (Some x) } ∙ (λ i. plain.the_gen name span pack (plain.a_type (view_type x)))

pub prop_seen : (access : Access) (key : code.PropKey.PropKey) (typ : code.TypeSyntax.TypeSyntax) → view_prop (part.roll-Prop record { access = access; key = key; typ = typ }) ≡ plain.the_prop access (view_prop_key key) (view_type typ)
unfolding view_prop view_prop_key view_type
prop_seen access key typ = folds.fold-roll-Prop _ _ _ _ _ _ _ _ _ _ _ _ _ _ _ _ _ _ _ _ _ _ _ _ _ _ _ _ _ _ record { access = access; key = key; typ = typ }

pub body_seen : (id : FnId) (has_self : Bool) (generics : List code.Gen.Gen) (params : List code.Bind.Bind) (vararg : Option (Option code.TypeSyntax.TypeSyntax)) (returned : Option code.TypeSyntax.TypeSyntax) (block : code.Block.Block) (span : Span) → view_body (part.roll-Body record { id = id; has_self = has_self; generics = generics; params = params; vararg = vararg; result = returned; block = block; span = span }) ≡ plain.the_body id.0 has_self (view_gens generics) (view_binds params) (view_varargs vararg) (view_maybe_type returned) (view_block block) span
unfolding view_body view_gen view_bind view_type view_block
body_seen id has_self generics params None None block span = folds.fold-roll-Body _ _ _ _ _ _ _ _ _ _ _ _ _ _ _ _ _ _ _ _ _ _ _ _ _ _ _ _ _ _ record { id = id; has_self = has_self; generics = generics; params = params; vararg = None; result = None; block = block; span = span } ∙ (λ i. plain.the_body id.0 has_self (gens_seen generics i) (binds_seen params i) plain.no_varargs plain.no_type (view_block block) span)
body_seen id has_self generics params None (Some x) block span = folds.fold-roll-Body _ _ _ _ _ _ _ _ _ _ _ _ _ _ _ _ _ _ _ _ _ _ _ _ _ _ _ _ _ _ record { id = id; has_self = has_self; generics = generics; params = params; vararg = None; result = (Some x); block = block; span = span } ∙ (λ i. plain.the_body id.0 has_self (gens_seen generics i) (binds_seen params i) plain.no_varargs (plain.a_type (view_type x)) (view_block block) span)
body_seen id has_self generics params (Some None) None block span = folds.fold-roll-Body _ _ _ _ _ _ _ _ _ _ _ _ _ _ _ _ _ _ _ _ _ _ _ _ _ _ _ _ _ _ record { id = id; has_self = has_self; generics = generics; params = params; vararg = (Some None); result = None; block = block; span = span } ∙ (λ i. plain.the_body id.0 has_self (gens_seen generics i) (binds_seen params i) (plain.varargs plain.no_type) plain.no_type (view_block block) span)
body_seen id has_self generics params (Some None) (Some x) block span = folds.fold-roll-Body _ _ _ _ _ _ _ _ _ _ _ _ _ _ _ _ _ _ _ _ _ _ _ _ _ _ _ _ _ _ record { id = id; has_self = has_self; generics = generics; params = params; vararg = (Some None); result = (Some x); block = block; span = span } ∙ (λ i. plain.the_body id.0 has_self (gens_seen generics i) (binds_seen params i) (plain.varargs plain.no_type) (plain.a_type (view_type x)) (view_block block) span)
body_seen id has_self generics params (Some (Some v)) None block span = folds.fold-roll-Body _ _ _ _ _ _ _ _ _ _ _ _ _ _ _ _ _ _ _ _ _ _ _ _ _ _ _ _ _ _ record { id = id; has_self = has_self; generics = generics; params = params; vararg = (Some (Some v)); result = None; block = block; span = span } ∙ (λ i. plain.the_body id.0 has_self (gens_seen generics i) (binds_seen params i) (plain.varargs (plain.a_type (view_type v))) plain.no_type (view_block block) span)
body_seen id has_self generics params (Some (Some v)) (Some x) block span = folds.fold-roll-Body _ _ _ _ _ _ _ _ _ _ _ _ _ _ _ _ _ _ _ _ _ _ _ _ _ _ _ _ _ _ record { id = id; has_self = has_self; generics = generics; params = params; vararg = (Some (Some v)); result = (Some x); block = block; span = span } ∙ (λ i. plain.the_body id.0 has_self (gens_seen generics i) (binds_seen params i) (plain.varargs (plain.a_type (view_type v))) (plain.a_type (view_type x)) (view_block block) span)
