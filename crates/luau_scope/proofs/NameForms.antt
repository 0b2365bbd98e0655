-- Which expressions are names, and what becomes of those that are none.
use Rattle.std.proofs.Common.{◌≡◌, ℕ, Bool, false, List, refl, sym, ap, ◌∙◌}
use Rattle.std.specs.Prelude.{Option, Some, None}
use Rattle.luau_tree.specs.declared.tree as code
use Rattle.luau_tree.specs.declared.tree.ExprKind.{ExprKind-F}
use Rattle.luau_tree.specs.declared.tree.ExprKind.TheOpen as layer
use Rattle.luau_tree.specs.declared.tree.ExprKind.TheViews as part
use Rattle.luau_tree.specs.declared.tree.ExprKind.TheVariants as an_expr
use Rattle.luau_tree.specs.Tree as plain
use Rattle.luau_tree.specs.View.{view_expr, view_expr_kind}
use Rattle.luau_tree.proofs.Views.{assert_expr_seen, at_expr_seen, binary_expr_seen, call_expr_seen, false_expr_seen, function_expr_seen, if_else_expr_seen, index_expr_seen, interp_expr_seen, method_expr_seen, name_expr_seen, nil_expr_seen, number_expr_seen, paren_expr_seen, str_expr_seen, table_expr_seen, true_expr_seen, unary_expr_seen, vararg_expr_seen}
use Rattle.luau_scope.specs.Found.{Around, Visible, meant}
use Rattle.luau_scope.specs.Finds as finds
use Rattle.luau_scope.specs.Steps.{name_in}
use Rattle.luau_scope.proofs.Layers.{expr_layer}

-- ## By the name

-- the local of a name
abbrev pub named_local : Around → Option (List ℕ) → Option Visible
named_local a None = None
named_local a (Some name) = meant a.scope name

-- whether a name is a builtin's or a library's
abbrev pub named_fixed : Around → Option (List ℕ) → Bool
named_fixed a None = false
named_fixed a (Some name) = finds.is_fixed a name

pub local_by_name : (a : Around) (kind : plain.ExprKind) → finds.local_of a kind ≡ named_local a (name_in kind)
local_by_name a plain.NilExpr = refl
local_by_name a plain.TrueExpr = refl
local_by_name a plain.FalseExpr = refl
local_by_name a (plain.NumberExpr text) = refl
local_by_name a (plain.StrExpr bytes) = refl
local_by_name a plain.Vararg = refl
local_by_name a (plain.FunctionExpr body) = refl
local_by_name a (plain.NameExpr name) = refl
local_by_name a (plain.Index base name) = refl
local_by_name a (plain.At base key) = refl
local_by_name a (plain.Call callee args) = refl
local_by_name a (plain.Method base name name_span args) = refl
local_by_name a (plain.Paren e) = refl
local_by_name a (plain.Unary op e) = refl
local_by_name a (plain.Binary op left right) = refl
local_by_name a (plain.IfElse arms last) = refl
local_by_name a (plain.TableExpr items) = refl
local_by_name a (plain.Interp texts parts) = refl
local_by_name a (plain.Assert e typ) = refl

pub fixed_by_name : (a : Around) (kind : plain.ExprKind) → finds.names_builtin a kind ≡ named_fixed a (name_in kind)
fixed_by_name a plain.NilExpr = refl
fixed_by_name a plain.TrueExpr = refl
fixed_by_name a plain.FalseExpr = refl
fixed_by_name a (plain.NumberExpr text) = refl
fixed_by_name a (plain.StrExpr bytes) = refl
fixed_by_name a plain.Vararg = refl
fixed_by_name a (plain.FunctionExpr body) = refl
fixed_by_name a (plain.NameExpr name) = refl
fixed_by_name a (plain.Index base name) = refl
fixed_by_name a (plain.At base key) = refl
fixed_by_name a (plain.Call callee args) = refl
fixed_by_name a (plain.Method base name name_span args) = refl
fixed_by_name a (plain.Paren e) = refl
fixed_by_name a (plain.Unary op e) = refl
fixed_by_name a (plain.Binary op left right) = refl
fixed_by_name a (plain.IfElse arms last) = refl
fixed_by_name a (plain.TableExpr items) = refl
fixed_by_name a (plain.Interp texts parts) = refl
fixed_by_name a (plain.Assert e typ) = refl

-- ## By the variant that code finds

-- the kind of an expression
pub kind_seen : (x : code.Expr.Expr) → finds.kind_of (view_expr x) ≡ view_expr_kind x.kind
kind_seen x = ap finds.kind_of (expr_layer x)

pub name_seen : (x : code.Expr.Expr) (name : List ℕ) → x.kind ≡ an_expr.Name name → finds.kind_of (view_expr x) ≡ plain.NameExpr name
name_seen x name e = kind_seen x ∙ ap view_expr_kind e ∙ name_expr_seen name

pub index_seen : (x base : code.Expr.Expr) (name : List ℕ) → x.kind ≡ an_expr.Index base name → finds.kind_of (view_expr x) ≡ plain.Index (view_expr base) name
index_seen x base name e = kind_seen x ∙ ap view_expr_kind e ∙ index_expr_seen base name

unnamed_layer : (f : ExprKind-F code.ExprKind.ExprKind code.Item.Item code.PropKey.PropKey code.StatKind.StatKind code.TypeKind.TypeKind code.Arm.Arm code.Bind.Bind code.Block.Block code.Body.Body code.Choice.Choice code.Expr.Expr code.Gen.Gen code.Prop.Prop code.Stat.Stat code.TypeSyntax.TypeSyntax)
    → ((name : List ℕ) → part.roll-ExprKind f ≡ an_expr.Name name → ⊥) → name_in (view_expr_kind (part.roll-ExprKind f)) ≡ None
unnamed_layer layer.«ExprKind::Nil» h = ap (λ (k : code.ExprKind.ExprKind). name_in (view_expr_kind k)) an_expr.rolls-Nil ∙ ap name_in nil_expr_seen
unnamed_layer layer.True h = ap (λ (k : code.ExprKind.ExprKind). name_in (view_expr_kind k)) an_expr.rolls-True ∙ ap name_in true_expr_seen
unnamed_layer layer.False h = ap (λ (k : code.ExprKind.ExprKind). name_in (view_expr_kind k)) an_expr.rolls-False ∙ ap name_in false_expr_seen
unnamed_layer (layer.Number text) h = ap (λ (k : code.ExprKind.ExprKind). name_in (view_expr_kind k)) (an_expr.rolls-Number text) ∙ ap name_in (number_expr_seen text)
unnamed_layer (layer.«ExprKind::Str» bytes) h = ap (λ (k : code.ExprKind.ExprKind). name_in (view_expr_kind k)) (an_expr.rolls-Str bytes) ∙ ap name_in (str_expr_seen bytes)
unnamed_layer layer.Vararg h = ap (λ (k : code.ExprKind.ExprKind). name_in (view_expr_kind k)) an_expr.rolls-Vararg ∙ ap name_in vararg_expr_seen
unnamed_layer (layer.«ExprKind::Function» body) h = ap (λ (k : code.ExprKind.ExprKind). name_in (view_expr_kind k)) (an_expr.rolls-Function body) ∙ ap name_in (function_expr_seen body)
unnamed_layer (layer.«ExprKind::Name» name) h = absurd (h name (an_expr.rolls-Name name))
unnamed_layer (layer.Index base name) h = ap (λ (k : code.ExprKind.ExprKind). name_in (view_expr_kind k)) (an_expr.rolls-Index base name) ∙ ap name_in (index_expr_seen base name)
unnamed_layer (layer.At base key) h = ap (λ (k : code.ExprKind.ExprKind). name_in (view_expr_kind k)) (an_expr.rolls-At base key) ∙ ap name_in (at_expr_seen base key)
unnamed_layer (layer.Call callee args) h = ap (λ (k : code.ExprKind.ExprKind). name_in (view_expr_kind k)) (an_expr.rolls-Call callee args) ∙ ap name_in (call_expr_seen callee args)
unnamed_layer (layer.Method base name name_span args) h = ap (λ (k : code.ExprKind.ExprKind). name_in (view_expr_kind k)) (an_expr.rolls-Method base name name_span args) ∙ ap name_in (method_expr_seen base name name_span args)
unnamed_layer (layer.Paren e) h = ap (λ (k : code.ExprKind.ExprKind). name_in (view_expr_kind k)) (an_expr.rolls-Paren e) ∙ ap name_in (paren_expr_seen e)
unnamed_layer (layer.Unary op e) h = ap (λ (k : code.ExprKind.ExprKind). name_in (view_expr_kind k)) (an_expr.rolls-Unary op e) ∙ ap name_in (unary_expr_seen op e)
unnamed_layer (layer.Binary op left right) h = ap (λ (k : code.ExprKind.ExprKind). name_in (view_expr_kind k)) (an_expr.rolls-Binary op left right) ∙ ap name_in (binary_expr_seen op left right)
unnamed_layer (layer.IfElse arms last) h = ap (λ (k : code.ExprKind.ExprKind). name_in (view_expr_kind k)) (an_expr.rolls-IfElse arms last) ∙ ap name_in (if_else_expr_seen arms last)
unnamed_layer (layer.«ExprKind::Table» items) h = ap (λ (k : code.ExprKind.ExprKind). name_in (view_expr_kind k)) (an_expr.rolls-Table items) ∙ ap name_in (table_expr_seen items)
unnamed_layer (layer.Interp texts parts) h = ap (λ (k : code.ExprKind.ExprKind). name_in (view_expr_kind k)) (an_expr.rolls-Interp texts parts) ∙ ap name_in (interp_expr_seen texts parts)
unnamed_layer (layer.Assert e typ) h = ap (λ (k : code.ExprKind.ExprKind). name_in (view_expr_kind k)) (an_expr.rolls-Assert e typ) ∙ ap name_in (assert_expr_seen e typ)

pub unnamed : (x : code.Expr.Expr) → ((name : List ℕ) → x.kind ≡ an_expr.Name name → ⊥) → name_in (finds.kind_of (view_expr x)) ≡ None
unnamed x h =
    ap name_in (kind_seen x)
    ∙ ap (λ (k : code.ExprKind.ExprKind). name_in (view_expr_kind k)) (sym (part.roll-out-ExprKind x.kind))
    ∙ unnamed_layer (part.out-ExprKind x.kind) (λ name e. h name (sym (part.roll-out-ExprKind x.kind) ∙ e))

both_by : (a : Around) (k l : plain.ExprKind) → k ≡ l → finds.touches_builtin a l ≡ finds.names_builtin a l → finds.touches_builtin a k ≡ finds.names_builtin a k
both_by a k l e h = ap (finds.touches_builtin a) e ∙ h ∙ sym (ap (finds.names_builtin a) e)

unindexed_layer : (a : Around) (f : ExprKind-F code.ExprKind.ExprKind code.Item.Item code.PropKey.PropKey code.StatKind.StatKind code.TypeKind.TypeKind code.Arm.Arm code.Bind.Bind code.Block.Block code.Body.Body code.Choice.Choice code.Expr.Expr code.Gen.Gen code.Prop.Prop code.Stat.Stat code.TypeSyntax.TypeSyntax)
    → ((base : code.Expr.Expr) (name : List ℕ) → part.roll-ExprKind f ≡ an_expr.Index base name → ⊥)
    → finds.touches_builtin a (view_expr_kind (part.roll-ExprKind f)) ≡ finds.names_builtin a (view_expr_kind (part.roll-ExprKind f))
unindexed_layer a layer.«ExprKind::Nil» h = both_by a _ _ (ap view_expr_kind an_expr.rolls-Nil ∙ nil_expr_seen) refl
unindexed_layer a layer.True h = both_by a _ _ (ap view_expr_kind an_expr.rolls-True ∙ true_expr_seen) refl
unindexed_layer a layer.False h = both_by a _ _ (ap view_expr_kind an_expr.rolls-False ∙ false_expr_seen) refl
unindexed_layer a (layer.Number text) h = both_by a _ _ (ap view_expr_kind (an_expr.rolls-Number text) ∙ number_expr_seen text) refl
unindexed_layer a (layer.«ExprKind::Str» bytes) h = both_by a _ _ (ap view_expr_kind (an_expr.rolls-Str bytes) ∙ str_expr_seen bytes) refl
unindexed_layer a layer.Vararg h = both_by a _ _ (ap view_expr_kind an_expr.rolls-Vararg ∙ vararg_expr_seen) refl
unindexed_layer a (layer.«ExprKind::Function» body) h = both_by a _ _ (ap view_expr_kind (an_expr.rolls-Function body) ∙ function_expr_seen body) refl
unindexed_layer a (layer.«ExprKind::Name» name) h = both_by a _ _ (ap view_expr_kind (an_expr.rolls-Name name) ∙ name_expr_seen name) refl
unindexed_layer a (layer.Index base name) h = absurd (h base name (an_expr.rolls-Index base name))
unindexed_layer a (layer.At base key) h = both_by a _ _ (ap view_expr_kind (an_expr.rolls-At base key) ∙ at_expr_seen base key) refl
unindexed_layer a (layer.Call callee args) h = both_by a _ _ (ap view_expr_kind (an_expr.rolls-Call callee args) ∙ call_expr_seen callee args) refl
unindexed_layer a (layer.Method base name name_span args) h = both_by a _ _ (ap view_expr_kind (an_expr.rolls-Method base name name_span args) ∙ method_expr_seen base name name_span args) refl
unindexed_layer a (layer.Paren e) h = both_by a _ _ (ap view_expr_kind (an_expr.rolls-Paren e) ∙ paren_expr_seen e) refl
unindexed_layer a (layer.Unary op e) h = both_by a _ _ (ap view_expr_kind (an_expr.rolls-Unary op e) ∙ unary_expr_seen op e) refl
unindexed_layer a (layer.Binary op left right) h = both_by a _ _ (ap view_expr_kind (an_expr.rolls-Binary op left right) ∙ binary_expr_seen op left right) refl
unindexed_layer a (layer.IfElse arms last) h = both_by a _ _ (ap view_expr_kind (an_expr.rolls-IfElse arms last) ∙ if_else_expr_seen arms last) refl
unindexed_layer a (layer.«ExprKind::Table» items) h = both_by a _ _ (ap view_expr_kind (an_expr.rolls-Table items) ∙ table_expr_seen items) refl
unindexed_layer a (layer.Interp texts parts) h = both_by a _ _ (ap view_expr_kind (an_expr.rolls-Interp texts parts) ∙ interp_expr_seen texts parts) refl
unindexed_layer a (layer.Assert e typ) h = both_by a _ _ (ap view_expr_kind (an_expr.rolls-Assert e typ) ∙ assert_expr_seen e typ) refl

pub unindexed : (a : Around) (x : code.Expr.Expr) → ((base : code.Expr.Expr) (name : List ℕ) → x.kind ≡ an_expr.Index base name → ⊥)
    → finds.touches_builtin a (finds.kind_of (view_expr x)) ≡ finds.names_builtin a (finds.kind_of (view_expr x))
unindexed a x h =
    both_by a _ _ (kind_seen x ∙ ap view_expr_kind (sym (part.roll-out-ExprKind x.kind)))
    (unindexed_layer a (part.out-ExprKind x.kind) (λ base name e. h base name (sym (part.roll-out-ExprKind x.kind) ∙ e)))
