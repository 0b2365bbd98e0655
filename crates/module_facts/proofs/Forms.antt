-- What the plain tree of an expression and of a statement is, by the variant that code finds in it.
use Rattle.std.proofs.Common.{◌≡◌, ℕ, Bool, List, ap, ◌∙◌}
use Rattle.std.specs.Prelude.{Option}
use Rattle.luau_tree.specs.declared.names.UnOp.{UnOp}
use Rattle.luau_tree.specs.declared.names.BinOp.{BinOp}
use Rattle.luau_tree.specs.declared.position.Span.{Span}
use Rattle.luau_tree.specs.declared.tree as code
use Rattle.luau_tree.specs.declared.tree.ExprKind.TheVariants as an_expr
use Rattle.luau_tree.specs.declared.tree.StatKind.TheVariants as a_stat
use Rattle.luau_tree.specs.Tree as plain
use Rattle.luau_tree.specs.View.{view_arms, view_bind, view_binds, view_block, view_body, view_choices, view_expr, view_expr_kind, view_exprs, view_gens, view_items, view_maybe_block, view_maybe_expr, view_stat, view_stat_kind, view_type}
use Rattle.luau_tree.proofs.Views.{assert_expr_seen, assign_stat_seen, at_expr_seen, binary_expr_seen, break_stat_seen, call_expr_seen, call_stat_seen, compound_stat_seen, continue_stat_seen, do_stat_seen, false_expr_seen, function_expr_seen, function_stat_seen, gen_for_stat_seen, if_else_expr_seen, if_stat_seen, index_expr_seen, interp_expr_seen, local_function_stat_seen, local_stat_seen, method_expr_seen, name_expr_seen, nil_expr_seen, num_for_stat_seen, number_expr_seen, paren_expr_seen, repeat_stat_seen, return_stat_seen, str_expr_seen, table_expr_seen, true_expr_seen, type_alias_stat_seen, type_function_stat_seen, unary_expr_seen, vararg_expr_seen, while_stat_seen}
use Rattle.luau_scope.proofs.Layers.{expr_layer, stat_layer}

pub nil_expr : (x : code.Expr.Expr) → x.kind ≡ an_expr.Nil → view_expr x ≡ plain.the_expr x.id.0 x.span plain.NilExpr
nil_expr x is = expr_layer x ∙ ap (plain.the_expr x.id.0 x.span) (ap view_expr_kind is ∙ nil_expr_seen)

pub true_expr : (x : code.Expr.Expr) → x.kind ≡ an_expr.True → view_expr x ≡ plain.the_expr x.id.0 x.span plain.TrueExpr
true_expr x is = expr_layer x ∙ ap (plain.the_expr x.id.0 x.span) (ap view_expr_kind is ∙ true_expr_seen)

pub false_expr : (x : code.Expr.Expr) → x.kind ≡ an_expr.False → view_expr x ≡ plain.the_expr x.id.0 x.span plain.FalseExpr
false_expr x is = expr_layer x ∙ ap (plain.the_expr x.id.0 x.span) (ap view_expr_kind is ∙ false_expr_seen)

pub number_expr : (x : code.Expr.Expr) (text : List ℕ) → x.kind ≡ an_expr.Number text → view_expr x ≡ plain.the_expr x.id.0 x.span (plain.NumberExpr text)
number_expr x text is = expr_layer x ∙ ap (plain.the_expr x.id.0 x.span) (ap view_expr_kind is ∙ number_expr_seen text)

pub str_expr : (x : code.Expr.Expr) (bytes : List ℕ) → x.kind ≡ an_expr.Str bytes → view_expr x ≡ plain.the_expr x.id.0 x.span (plain.StrExpr bytes)
str_expr x bytes is = expr_layer x ∙ ap (plain.the_expr x.id.0 x.span) (ap view_expr_kind is ∙ str_expr_seen bytes)

pub vararg_expr : (x : code.Expr.Expr) → x.kind ≡ an_expr.Vararg → view_expr x ≡ plain.the_expr x.id.0 x.span plain.Vararg
vararg_expr x is = expr_layer x ∙ ap (plain.the_expr x.id.0 x.span) (ap view_expr_kind is ∙ vararg_expr_seen)

pub function_expr : (x : code.Expr.Expr) (body : code.Body.Body) → x.kind ≡ an_expr.Function body → view_expr x ≡ plain.the_expr x.id.0 x.span (plain.FunctionExpr (view_body body))
function_expr x body is = expr_layer x ∙ ap (plain.the_expr x.id.0 x.span) (ap view_expr_kind is ∙ function_expr_seen body)

pub name_expr : (x : code.Expr.Expr) (name : List ℕ) → x.kind ≡ an_expr.Name name → view_expr x ≡ plain.the_expr x.id.0 x.span (plain.NameExpr name)
name_expr x name is = expr_layer x ∙ ap (plain.the_expr x.id.0 x.span) (ap view_expr_kind is ∙ name_expr_seen name)

pub index_expr : (x : code.Expr.Expr) (base : code.Expr.Expr) (name : List ℕ) → x.kind ≡ an_expr.Index base name → view_expr x ≡ plain.the_expr x.id.0 x.span (plain.Index (view_expr base) name)
index_expr x base name is = expr_layer x ∙ ap (plain.the_expr x.id.0 x.span) (ap view_expr_kind is ∙ index_expr_seen base name)

pub at_expr : (x : code.Expr.Expr) (base : code.Expr.Expr) (key : code.Expr.Expr) → x.kind ≡ an_expr.At base key → view_expr x ≡ plain.the_expr x.id.0 x.span (plain.At (view_expr base) (view_expr key))
at_expr x base key is = expr_layer x ∙ ap (plain.the_expr x.id.0 x.span) (ap view_expr_kind is ∙ at_expr_seen base key)

pub call_expr : (x : code.Expr.Expr) (callee : code.Expr.Expr) (args : List code.Expr.Expr) → x.kind ≡ an_expr.Call callee args → view_expr x ≡ plain.the_expr x.id.0 x.span (plain.Call (view_expr callee) (view_exprs args))
call_expr x callee args is = expr_layer x ∙ ap (plain.the_expr x.id.0 x.span) (ap view_expr_kind is ∙ call_expr_seen callee args)

pub method_expr : (x : code.Expr.Expr) (base : code.Expr.Expr) (name : List ℕ) (name_span : Span) (args : List code.Expr.Expr) → x.kind ≡ an_expr.Method base name name_span args → view_expr x ≡ plain.the_expr x.id.0 x.span (plain.Method (view_expr base) name name_span (view_exprs args))
method_expr x base name name_span args is = expr_layer x ∙ ap (plain.the_expr x.id.0 x.span) (ap view_expr_kind is ∙ method_expr_seen base name name_span args)

pub paren_expr : (x : code.Expr.Expr) (e : code.Expr.Expr) → x.kind ≡ an_expr.Paren e → view_expr x ≡ plain.the_expr x.id.0 x.span (plain.Paren (view_expr e))
paren_expr x e is = expr_layer x ∙ ap (plain.the_expr x.id.0 x.span) (ap view_expr_kind is ∙ paren_expr_seen e)

pub unary_expr : (x : code.Expr.Expr) (op : UnOp) (e : code.Expr.Expr) → x.kind ≡ an_expr.Unary op e → view_expr x ≡ plain.the_expr x.id.0 x.span (plain.Unary op (view_expr e))
unary_expr x op e is = expr_layer x ∙ ap (plain.the_expr x.id.0 x.span) (ap view_expr_kind is ∙ unary_expr_seen op e)

pub binary_expr : (x : code.Expr.Expr) (op : BinOp) (left : code.Expr.Expr) (right : code.Expr.Expr) → x.kind ≡ an_expr.Binary op left right → view_expr x ≡ plain.the_expr x.id.0 x.span (plain.Binary op (view_expr left) (view_expr right))
binary_expr x op left right is = expr_layer x ∙ ap (plain.the_expr x.id.0 x.span) (ap view_expr_kind is ∙ binary_expr_seen op left right)

pub if_else_expr : (x : code.Expr.Expr) (arms : List code.Choice.Choice) (last : code.Expr.Expr) → x.kind ≡ an_expr.IfElse arms last → view_expr x ≡ plain.the_expr x.id.0 x.span (plain.IfElse (view_choices arms) (view_expr last))
if_else_expr x arms last is = expr_layer x ∙ ap (plain.the_expr x.id.0 x.span) (ap view_expr_kind is ∙ if_else_expr_seen arms last)

pub table_expr : (x : code.Expr.Expr) (items : List code.Item.Item) → x.kind ≡ an_expr.Table items → view_expr x ≡ plain.the_expr x.id.0 x.span (plain.TableExpr (view_items items))
table_expr x items is = expr_layer x ∙ ap (plain.the_expr x.id.0 x.span) (ap view_expr_kind is ∙ table_expr_seen items)

pub interp_expr : (x : code.Expr.Expr) (texts : List (List ℕ)) (parts : List code.Expr.Expr) → x.kind ≡ an_expr.Interp texts parts → view_expr x ≡ plain.the_expr x.id.0 x.span (plain.Interp texts (view_exprs parts))
interp_expr x texts parts is = expr_layer x ∙ ap (plain.the_expr x.id.0 x.span) (ap view_expr_kind is ∙ interp_expr_seen texts parts)

pub assert_expr : (x : code.Expr.Expr) (e : code.Expr.Expr) (typ : code.TypeSyntax.TypeSyntax) → x.kind ≡ an_expr.Assert e typ → view_expr x ≡ plain.the_expr x.id.0 x.span (plain.Assert (view_expr e) (view_type typ))
assert_expr x e typ is = expr_layer x ∙ ap (plain.the_expr x.id.0 x.span) (ap view_expr_kind is ∙ assert_expr_seen e typ)

pub assign_stat : (x : code.Stat.Stat) (targets : List code.Expr.Expr) (values : List code.Expr.Expr) → x.kind ≡ a_stat.Assign targets values → view_stat x ≡ plain.the_stat x.span (plain.Assign (view_exprs targets) (view_exprs values))
assign_stat x targets values is = stat_layer x ∙ ap (plain.the_stat x.span) (ap view_stat_kind is ∙ assign_stat_seen targets values)

pub compound_stat : (x : code.Stat.Stat) (target : code.Expr.Expr) (op : BinOp) (value : code.Expr.Expr) → x.kind ≡ a_stat.Compound target op value → view_stat x ≡ plain.the_stat x.span (plain.Compound (view_expr target) op (view_expr value))
compound_stat x target op value is = stat_layer x ∙ ap (plain.the_stat x.span) (ap view_stat_kind is ∙ compound_stat_seen target op value)

pub call_stat : (x : code.Stat.Stat) (call : code.Expr.Expr) → x.kind ≡ a_stat.CallStat call → view_stat x ≡ plain.the_stat x.span (plain.CallStat (view_expr call))
call_stat x call is = stat_layer x ∙ ap (plain.the_stat x.span) (ap view_stat_kind is ∙ call_stat_seen call)

pub do_stat : (x : code.Stat.Stat) (body : code.Block.Block) → x.kind ≡ a_stat.Do body → view_stat x ≡ plain.the_stat x.span (plain.Do (view_block body))
do_stat x body is = stat_layer x ∙ ap (plain.the_stat x.span) (ap view_stat_kind is ∙ do_stat_seen body)

pub while_stat : (x : code.Stat.Stat) (cond : code.Expr.Expr) (body : code.Block.Block) → x.kind ≡ a_stat.While cond body → view_stat x ≡ plain.the_stat x.span (plain.While (view_expr cond) (view_block body))
while_stat x cond body is = stat_layer x ∙ ap (plain.the_stat x.span) (ap view_stat_kind is ∙ while_stat_seen cond body)

pub repeat_stat : (x : code.Stat.Stat) (body : code.Block.Block) (cond : code.Expr.Expr) → x.kind ≡ a_stat.Repeat body cond → view_stat x ≡ plain.the_stat x.span (plain.Repeat (view_block body) (view_expr cond))
repeat_stat x body cond is = stat_layer x ∙ ap (plain.the_stat x.span) (ap view_stat_kind is ∙ repeat_stat_seen body cond)

pub if_stat : (x : code.Stat.Stat) (arms : List code.Arm.Arm) (last : Option code.Block.Block) → x.kind ≡ a_stat.If arms last → view_stat x ≡ plain.the_stat x.span (plain.If (view_arms arms) (view_maybe_block last))
if_stat x arms last is = stat_layer x ∙ ap (plain.the_stat x.span) (ap view_stat_kind is ∙ if_stat_seen arms last)

pub num_for_stat : (x : code.Stat.Stat) (bind : code.Bind.Bind) (from : code.Expr.Expr) (to : code.Expr.Expr) (step : Option code.Expr.Expr) (body : code.Block.Block) → x.kind ≡ a_stat.NumFor bind from to step body → view_stat x ≡ plain.the_stat x.span (plain.NumFor (view_bind bind) (view_expr from) (view_expr to) (view_maybe_expr step) (view_block body))
num_for_stat x bind from to step body is = stat_layer x ∙ ap (plain.the_stat x.span) (ap view_stat_kind is ∙ num_for_stat_seen bind from to step body)

pub gen_for_stat : (x : code.Stat.Stat) (binds : List code.Bind.Bind) (values : List code.Expr.Expr) (body : code.Block.Block) → x.kind ≡ a_stat.GenFor binds values body → view_stat x ≡ plain.the_stat x.span (plain.GenFor (view_binds binds) (view_exprs values) (view_block body))
gen_for_stat x binds values body is = stat_layer x ∙ ap (plain.the_stat x.span) (ap view_stat_kind is ∙ gen_for_stat_seen binds values body)

pub function_stat : (x : code.Stat.Stat) (path : code.Expr.Expr) (method : Option (List ℕ)) (body : code.Body.Body) → x.kind ≡ a_stat.Function path method body → view_stat x ≡ plain.the_stat x.span (plain.FunctionStat (view_expr path) method (view_body body))
function_stat x path method body is = stat_layer x ∙ ap (plain.the_stat x.span) (ap view_stat_kind is ∙ function_stat_seen path method body)

pub local_function_stat : (x : code.Stat.Stat) (name : code.Bind.Bind) (body : code.Body.Body) → x.kind ≡ a_stat.LocalFunction name body → view_stat x ≡ plain.the_stat x.span (plain.LocalFunction (view_bind name) (view_body body))
local_function_stat x name body is = stat_layer x ∙ ap (plain.the_stat x.span) (ap view_stat_kind is ∙ local_function_stat_seen name body)

pub local_stat : (x : code.Stat.Stat) (binds : List code.Bind.Bind) (values : List code.Expr.Expr) → x.kind ≡ a_stat.Local binds values → view_stat x ≡ plain.the_stat x.span (plain.Local (view_binds binds) (view_exprs values))
local_stat x binds values is = stat_layer x ∙ ap (plain.the_stat x.span) (ap view_stat_kind is ∙ local_stat_seen binds values)

pub type_alias_stat : (x : code.Stat.Stat) (exported : Bool) (name : List ℕ) (generics : List code.Gen.Gen) (typ : code.TypeSyntax.TypeSyntax) → x.kind ≡ a_stat.TypeAlias exported name generics typ → view_stat x ≡ plain.the_stat x.span (plain.TypeAlias exported name (view_gens generics) (view_type typ))
type_alias_stat x exported name generics typ is = stat_layer x ∙ ap (plain.the_stat x.span) (ap view_stat_kind is ∙ type_alias_stat_seen exported name generics typ)

pub type_function_stat : (x : code.Stat.Stat) (exported : Bool) (name : List ℕ) (body : code.Body.Body) → x.kind ≡ a_stat.TypeFunction exported name body → view_stat x ≡ plain.the_stat x.span (plain.TypeFunction exported name (view_body body))
type_function_stat x exported name body is = stat_layer x ∙ ap (plain.the_stat x.span) (ap view_stat_kind is ∙ type_function_stat_seen exported name body)

pub return_stat : (x : code.Stat.Stat) (values : List code.Expr.Expr) → x.kind ≡ a_stat.Return values → view_stat x ≡ plain.the_stat x.span (plain.Return (view_exprs values))
return_stat x values is = stat_layer x ∙ ap (plain.the_stat x.span) (ap view_stat_kind is ∙ return_stat_seen values)

pub break_stat : (x : code.Stat.Stat) → x.kind ≡ a_stat.Break → view_stat x ≡ plain.the_stat x.span plain.Break
break_stat x is = stat_layer x ∙ ap (plain.the_stat x.span) (ap view_stat_kind is ∙ break_stat_seen)

pub continue_stat : (x : code.Stat.Stat) → x.kind ≡ a_stat.Continue → view_stat x ≡ plain.the_stat x.span plain.Continue
continue_stat x is = stat_layer x ∙ ap (plain.the_stat x.span) (ap view_stat_kind is ∙ continue_stat_seen)
