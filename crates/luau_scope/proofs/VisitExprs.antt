-- What becomes of an expression, by the variant that code finds in it.
use Rattle.std.proofs.Common.{◌≡◌, ◌⊎◌, inl, inr, ℕ, List, ap, ◌∙◌}
use Rattle.std.specs.Prelude.{not}
use Rattle.luau_tree.specs.declared.names.BinOp.{BinOp}
use Rattle.luau_tree.specs.declared.names.UnOp.{UnOp}
use Rattle.luau_tree.specs.declared.position.Span.{Span}
use Rattle.luau_tree.specs.declared.tree as code
use Rattle.luau_tree.specs.declared.tree.ExprKind.TheVariants as an_expr
use Rattle.luau_tree.specs.Tree as plain
use Rattle.luau_tree.specs.View.{view_body, view_choices, view_expr, view_expr_kind, view_exprs, view_items, view_type}
use Rattle.luau_tree.proofs.Views.{assert_expr_seen, at_expr_seen, binary_expr_seen, call_expr_seen, false_expr_seen, function_expr_seen, if_else_expr_seen, index_expr_seen, interp_expr_seen, method_expr_seen, name_expr_seen, nil_expr_seen, number_expr_seen, paren_expr_seen, str_expr_seen, table_expr_seen, true_expr_seen, unary_expr_seen, vararg_expr_seen}
use Rattle.luau_scope.specs.declared.within.Within.{Within}
use Rattle.luau_scope.specs.declared.walker.Walker.{Walker}
use Rattle.luau_scope.specs.declared.refusal.Refusal.TheVariants.{VarargOutside}
use Rattle.luau_scope.specs.Finds as finds
use Rattle.luau_scope.specs.Steps.{after_body, after_call, after_choices, after_expr, after_exprs, after_items, after_part, after_type, around_in}
use Rattle.luau_scope.proofs.AfterExprs.{assert_expr, at_expr, binary_expr, call_expr, false_expr, function_expr, if_else_expr, index_expr, interp_expr, method_expr, name_expr, nil_expr, number_expr, paren_expr, str_expr, table_expr, true_expr, unary_expr, vararg_expr}
use Rattle.luau_scope.proofs.Layers.{expr_layer}

-- an expression, by its plain form
form : (w : Within) (x : code.Expr.Expr) (kind : plain.ExprKind) (s : Walker) → view_expr_kind x.kind ≡ kind → after_expr w (view_expr x) s ≡ after_expr w (plain.the_expr x.id.0 x.span kind) s
form w x kind s e = ap (λ (t : plain.Expr). after_expr w t s) (expr_layer x ∙ ap (plain.the_expr x.id.0 x.span) e)

nil_visit : (w : Within) (x : code.Expr.Expr) (s : Walker) → x.kind ≡ an_expr.Nil
    → after_expr w (view_expr x) s ≡ s
nil_visit w x s e = form w x _ s (ap view_expr_kind e ∙ nil_expr_seen) ∙ nil_expr w x.id.0 x.span s

true_visit : (w : Within) (x : code.Expr.Expr) (s : Walker) → x.kind ≡ an_expr.True
    → after_expr w (view_expr x) s ≡ s
true_visit w x s e = form w x _ s (ap view_expr_kind e ∙ true_expr_seen) ∙ true_expr w x.id.0 x.span s

false_visit : (w : Within) (x : code.Expr.Expr) (s : Walker) → x.kind ≡ an_expr.False
    → after_expr w (view_expr x) s ≡ s
false_visit w x s e = form w x _ s (ap view_expr_kind e ∙ false_expr_seen) ∙ false_expr w x.id.0 x.span s

number_visit : (w : Within) (x : code.Expr.Expr) (text : List ℕ) (s : Walker) → x.kind ≡ an_expr.Number text
    → after_expr w (view_expr x) s ≡ s
number_visit w x text s e = form w x _ s (ap view_expr_kind e ∙ number_expr_seen text) ∙ number_expr w x.id.0 x.span text s

str_visit : (w : Within) (x : code.Expr.Expr) (bytes : List ℕ) (s : Walker) → x.kind ≡ an_expr.Str bytes
    → after_expr w (view_expr x) s ≡ s
str_visit w x bytes s e = form w x _ s (ap view_expr_kind e ∙ str_expr_seen bytes) ∙ str_expr w x.id.0 x.span bytes s

pub vararg_visit : (w : Within) (x : code.Expr.Expr) (s : Walker) → x.kind ≡ an_expr.Vararg
    → after_expr w (view_expr x) s ≡ after_part (finds.refused_if (not w.takes) VarargOutside x.span) s
vararg_visit w x s e = form w x _ s (ap view_expr_kind e ∙ vararg_expr_seen) ∙ vararg_expr w x.id.0 x.span s

pub function_visit : (w : Within) (x : code.Expr.Expr) (body : code.Body.Body) (s : Walker) → x.kind ≡ an_expr.Function body
    → after_expr w (view_expr x) s ≡ after_body w (view_body body) s
function_visit w x body s e = form w x _ s (ap view_expr_kind e ∙ function_expr_seen body) ∙ function_expr w x.id.0 x.span (view_body body) s

pub name_visit : (w : Within) (x : code.Expr.Expr) (name : List ℕ) (s : Walker) → x.kind ≡ an_expr.Name name
    → after_expr w (view_expr x) s ≡ after_part (finds.of_name (around_in s w) x.id x.span name) s
name_visit w x name s e = form w x _ s (ap view_expr_kind e ∙ name_expr_seen name) ∙ name_expr w x.id.0 x.span name s

pub index_visit : (w : Within) (x : code.Expr.Expr) (base : code.Expr.Expr) (name : List ℕ) (s : Walker) → x.kind ≡ an_expr.Index base name
    → after_expr w (view_expr x) s ≡ after_expr w (view_expr base) (after_part (finds.of_path (around_in s w) x.id (finds.kind_of (view_expr base)) name) s)
index_visit w x base name s e = form w x _ s (ap view_expr_kind e ∙ index_expr_seen base name) ∙ index_expr w x.id.0 x.span (view_expr base) name s

pub at_visit : (w : Within) (x : code.Expr.Expr) (base : code.Expr.Expr) (key : code.Expr.Expr) (s : Walker) → x.kind ≡ an_expr.At base key
    → after_expr w (view_expr x) s ≡ after_expr w (view_expr key) (after_expr w (view_expr base) s)
at_visit w x base key s e = form w x _ s (ap view_expr_kind e ∙ at_expr_seen base key) ∙ at_expr w x.id.0 x.span (view_expr base) (view_expr key) s

pub call_visit : (w : Within) (x : code.Expr.Expr) (callee : code.Expr.Expr) (args : List code.Expr.Expr) (s : Walker) → x.kind ≡ an_expr.Call callee args
    → after_expr w (view_expr x) s ≡ after_call w x.id x.span (view_expr callee) (view_exprs args) s
call_visit w x callee args s e = form w x _ s (ap view_expr_kind e ∙ call_expr_seen callee args) ∙ call_expr w x.id.0 x.span (view_expr callee) (view_exprs args) s

pub method_visit : (w : Within) (x : code.Expr.Expr) (base : code.Expr.Expr) (name : List ℕ) (name_span : Span) (args : List code.Expr.Expr) (s : Walker) → x.kind ≡ an_expr.Method base name name_span args
    → after_expr w (view_expr x) s ≡ after_exprs w (view_exprs args) (after_expr w (view_expr base) s)
method_visit w x base name name_span args s e = form w x _ s (ap view_expr_kind e ∙ method_expr_seen base name name_span args) ∙ method_expr w x.id.0 x.span (view_expr base) name name_span (view_exprs args) s

paren_visit : (w : Within) (x : code.Expr.Expr) (held : code.Expr.Expr) (s : Walker) → x.kind ≡ an_expr.Paren held
    → after_expr w (view_expr x) s ≡ after_expr w (view_expr held) s
paren_visit w x held s e = form w x _ s (ap view_expr_kind e ∙ paren_expr_seen held) ∙ paren_expr w x.id.0 x.span (view_expr held) s

unary_visit : (w : Within) (x : code.Expr.Expr) (op : UnOp) (held : code.Expr.Expr) (s : Walker) → x.kind ≡ an_expr.Unary op held
    → after_expr w (view_expr x) s ≡ after_expr w (view_expr held) s
unary_visit w x op held s e = form w x _ s (ap view_expr_kind e ∙ unary_expr_seen op held) ∙ unary_expr w x.id.0 x.span op (view_expr held) s

pub binary_visit : (w : Within) (x : code.Expr.Expr) (op : BinOp) (left : code.Expr.Expr) (right : code.Expr.Expr) (s : Walker) → x.kind ≡ an_expr.Binary op left right
    → after_expr w (view_expr x) s ≡ after_expr w (view_expr right) (after_expr w (view_expr left) s)
binary_visit w x op left right s e = form w x _ s (ap view_expr_kind e ∙ binary_expr_seen op left right) ∙ binary_expr w x.id.0 x.span op (view_expr left) (view_expr right) s

pub if_else_visit : (w : Within) (x : code.Expr.Expr) (arms : List code.Choice.Choice) (last : code.Expr.Expr) (s : Walker) → x.kind ≡ an_expr.IfElse arms last
    → after_expr w (view_expr x) s ≡ after_expr w (view_expr last) (after_choices w (view_choices arms) s)
if_else_visit w x arms last s e = form w x _ s (ap view_expr_kind e ∙ if_else_expr_seen arms last) ∙ if_else_expr w x.id.0 x.span (view_choices arms) (view_expr last) s

pub table_visit : (w : Within) (x : code.Expr.Expr) (items : List code.Item.Item) (s : Walker) → x.kind ≡ an_expr.Table items
    → after_expr w (view_expr x) s ≡ after_items w (view_items items) s
table_visit w x items s e = form w x _ s (ap view_expr_kind e ∙ table_expr_seen items) ∙ table_expr w x.id.0 x.span (view_items items) s

pub interp_visit : (w : Within) (x : code.Expr.Expr) (texts : List (List ℕ)) (parts : List code.Expr.Expr) (s : Walker) → x.kind ≡ an_expr.Interp texts parts
    → after_expr w (view_expr x) s ≡ after_exprs w (view_exprs parts) s
interp_visit w x texts parts s e = form w x _ s (ap view_expr_kind e ∙ interp_expr_seen texts parts) ∙ interp_expr w x.id.0 x.span texts (view_exprs parts) s

pub assert_visit : (w : Within) (x : code.Expr.Expr) (held : code.Expr.Expr) (typ : code.TypeSyntax.TypeSyntax) (s : Walker) → x.kind ≡ an_expr.Assert held typ
    → after_expr w (view_expr x) s ≡ after_type w (view_type typ) (after_expr w (view_expr held) s)
assert_visit w x held typ s e = form w x _ s (ap view_expr_kind e ∙ assert_expr_seen held typ) ∙ assert_expr w x.id.0 x.span (view_expr held) (view_type typ) s

-- ## Variants that become the same

pub leaf_visit : (w : Within) (x : code.Expr.Expr) (s : Walker)
    → (x.kind ≡ an_expr.Nil) ⊎ ((x.kind ≡ an_expr.True) ⊎ ((x.kind ≡ an_expr.False) ⊎ (((text : List ℕ) × (x.kind ≡ an_expr.Number text)) ⊎ ((bytes : List ℕ) × (x.kind ≡ an_expr.Str bytes)))))
    → after_expr w (view_expr x) s ≡ s
leaf_visit w x s (inl e) = nil_visit w x s e
leaf_visit w x s (inr (inl e)) = true_visit w x s e
leaf_visit w x s (inr (inr (inl e))) = false_visit w x s e
leaf_visit w x s (inr (inr (inr (inl p)))) = number_visit w x p.0 s p.1
leaf_visit w x s (inr (inr (inr (inr p)))) = str_visit w x p.0 s p.1

pub inner_visit : (w : Within) (x held : code.Expr.Expr) (s : Walker)
    → (x.kind ≡ an_expr.Paren held) ⊎ ((op : UnOp) × (x.kind ≡ an_expr.Unary op held))
    → after_expr w (view_expr x) s ≡ after_expr w (view_expr held) s
inner_visit w x held s (inl e) = paren_visit w x held s e
inner_visit w x held s (inr p) = unary_visit w x p.0 held s p.1
