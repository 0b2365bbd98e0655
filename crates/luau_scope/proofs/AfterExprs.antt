-- What becomes of each form of an expression.
use Rattle.std.proofs.Common.{◌≡◌, ℕ, List, refl, ap, ◌∙◌}
use Rattle.std.specs.Prelude.{not}
use Rattle.luau_tree.specs.declared.position.Span.{Span}
use Rattle.luau_tree.specs.declared.names.UnOp.{UnOp}
use Rattle.luau_tree.specs.declared.names.BinOp.{BinOp}
use Rattle.luau_tree.specs.Tree as plain
use Rattle.luau_scope.specs.declared.within.Within.{Within}
use Rattle.luau_scope.specs.declared.walker.Walker.{Walker}
use Rattle.luau_scope.specs.declared.refusal.Refusal.TheVariants.{VarargOutside}
use Rattle.luau_scope.specs.Finds as finds
use Rattle.luau_scope.specs.Steps.{after_body, after_expr, after_call, after_exprs, after_maybe_expr, after_choices, after_items, after_type, added, after_part, around_in}
use Rattle.luau_scope.proofs.Walk.{after_join}

pub nil_expr : (w : Within) (id : ℕ) (span : Span) (s : Walker) → after_expr w (plain.the_expr id span plain.NilExpr) s ≡ s
unfolding after_expr added
nil_expr w id span s = refl

pub true_expr : (w : Within) (id : ℕ) (span : Span) (s : Walker) → after_expr w (plain.the_expr id span plain.TrueExpr) s ≡ s
unfolding after_expr added
true_expr w id span s = refl

pub false_expr : (w : Within) (id : ℕ) (span : Span) (s : Walker) → after_expr w (plain.the_expr id span plain.FalseExpr) s ≡ s
unfolding after_expr added
false_expr w id span s = refl

pub number_expr : (w : Within) (id : ℕ) (span : Span) (text : List ℕ) (s : Walker) → after_expr w (plain.the_expr id span (plain.NumberExpr text)) s ≡ s
unfolding after_expr added
number_expr w id span text s = refl

pub str_expr : (w : Within) (id : ℕ) (span : Span) (bytes : List ℕ) (s : Walker) → after_expr w (plain.the_expr id span (plain.StrExpr bytes)) s ≡ s
unfolding after_expr added
str_expr w id span bytes s = refl

pub vararg_expr : (w : Within) (id : ℕ) (span : Span) (s : Walker) → after_expr w (plain.the_expr id span plain.Vararg) s ≡ after_part (finds.refused_if (not w.takes) VarargOutside span) s
unfolding after_expr
vararg_expr w id span s = refl

pub function_expr : (w : Within) (id : ℕ) (span : Span) (body : plain.Body) (s : Walker) → after_expr w (plain.the_expr id span (plain.FunctionExpr body)) s ≡ after_body w body s
unfolding after_expr after_body
function_expr w id span body s = refl

pub name_expr : (w : Within) (id : ℕ) (span : Span) (name : List ℕ) (s : Walker) → after_expr w (plain.the_expr id span (plain.NameExpr name)) s ≡ after_part (finds.of_name (around_in s w) (record { 0 = id }) span name) s
unfolding after_expr
name_expr w id span name s = refl

pub index_expr : (w : Within) (id : ℕ) (span : Span) (base : plain.Expr) (name : List ℕ) (s : Walker) → after_expr w (plain.the_expr id span (plain.Index base name)) s ≡ after_expr w base (after_part (finds.of_path (around_in s w) (record { 0 = id }) (finds.kind_of base) name) s)
unfolding after_expr
index_expr w id span base name s = after_join _ _ s

pub at_expr : (w : Within) (id : ℕ) (span : Span) (base : plain.Expr) (key : plain.Expr) (s : Walker) → after_expr w (plain.the_expr id span (plain.At base key)) s ≡ after_expr w key (after_expr w base s)
unfolding after_expr
at_expr w id span base key s = after_join _ _ s

pub call_expr : (w : Within) (id : ℕ) (span : Span) (callee : plain.Expr) (args : plain.Exprs) (s : Walker) → after_expr w (plain.the_expr id span (plain.Call callee args)) s ≡ after_call w (record { 0 = id }) span callee args s
unfolding after_expr after_call
call_expr w id span callee args s = refl

pub method_expr : (w : Within) (id : ℕ) (span : Span) (base : plain.Expr) (name : List ℕ) (name_span : Span) (args : plain.Exprs) (s : Walker) → after_expr w (plain.the_expr id span (plain.Method base name name_span args)) s ≡ after_exprs w args (after_expr w base s)
unfolding after_expr after_exprs
method_expr w id span base name name_span args s = after_join _ _ s

pub paren_expr : (w : Within) (id : ℕ) (span : Span) (e : plain.Expr) (s : Walker) → after_expr w (plain.the_expr id span (plain.Paren e)) s ≡ after_expr w e s
unfolding after_expr
paren_expr w id span e s = refl

pub unary_expr : (w : Within) (id : ℕ) (span : Span) (op : UnOp) (e : plain.Expr) (s : Walker) → after_expr w (plain.the_expr id span (plain.Unary op e)) s ≡ after_expr w e s
unfolding after_expr
unary_expr w id span op e s = refl

pub binary_expr : (w : Within) (id : ℕ) (span : Span) (op : BinOp) (left : plain.Expr) (right : plain.Expr) (s : Walker) → after_expr w (plain.the_expr id span (plain.Binary op left right)) s ≡ after_expr w right (after_expr w left s)
unfolding after_expr
binary_expr w id span op left right s = after_join _ _ s

pub if_else_expr : (w : Within) (id : ℕ) (span : Span) (arms : plain.Choices) (last : plain.Expr) (s : Walker) → after_expr w (plain.the_expr id span (plain.IfElse arms last)) s ≡ after_expr w last (after_choices w arms s)
unfolding after_expr after_choices
if_else_expr w id span arms last s = after_join _ _ s

pub table_expr : (w : Within) (id : ℕ) (span : Span) (items : plain.Items) (s : Walker) → after_expr w (plain.the_expr id span (plain.TableExpr items)) s ≡ after_items w items s
unfolding after_expr after_items
table_expr w id span items s = refl

pub interp_expr : (w : Within) (id : ℕ) (span : Span) (texts : List (List ℕ)) (parts : plain.Exprs) (s : Walker) → after_expr w (plain.the_expr id span (plain.Interp texts parts)) s ≡ after_exprs w parts s
unfolding after_expr after_exprs
interp_expr w id span texts parts s = refl

pub assert_expr : (w : Within) (id : ℕ) (span : Span) (e : plain.Expr) (typ : plain.TypeSyntax) (s : Walker) → after_expr w (plain.the_expr id span (plain.Assert e typ)) s ≡ after_type w typ (after_expr w e s)
unfolding after_expr after_type
assert_expr w id span e typ s = after_join _ _ s

pub no_exprs : (w : Within) (s : Walker) → after_exprs w plain.no_exprs s ≡ s
unfolding after_exprs added
no_exprs w s = refl

pub more_exprs : (w : Within) (e : plain.Expr) (rest : plain.Exprs) (s : Walker) → after_exprs w (plain.more_exprs e rest) s ≡ after_exprs w rest (after_expr w e s)
unfolding after_exprs after_expr
more_exprs w e rest s = after_join _ _ s

pub no_expr : (w : Within) (s : Walker) → after_maybe_expr w plain.no_expr s ≡ s
unfolding after_maybe_expr added
no_expr w s = refl

pub an_expr : (w : Within) (e : plain.Expr) (s : Walker) → after_maybe_expr w (plain.an_expr e) s ≡ after_expr w e s
unfolding after_maybe_expr after_expr
an_expr w e s = refl

pub no_choices : (w : Within) (s : Walker) → after_choices w plain.no_choices s ≡ s
unfolding after_choices added
no_choices w s = refl

pub more_choices : (w : Within) (cond : plain.Expr) (value : plain.Expr) (rest : plain.Choices) (s : Walker) → after_choices w (plain.more_choices cond value rest) s ≡ after_choices w rest (after_expr w value (after_expr w cond s))
unfolding after_choices after_expr
more_choices w cond value rest s = after_join _ _ s ∙ after_join _ _ (after_expr w cond s)

pub no_items : (w : Within) (s : Walker) → after_items w plain.no_items s ≡ s
unfolding after_items added
no_items w s = refl

pub field_item : (w : Within) (name : List ℕ) (value : plain.Expr) (rest : plain.Items) (s : Walker) → after_items w (plain.more_items (plain.Field name value) rest) s ≡ after_items w rest (after_expr w value s)
unfolding after_items after_expr
field_item w name value rest s = after_join _ _ s

pub plain_item : (w : Within) (value : plain.Expr) (rest : plain.Items) (s : Walker) → after_items w (plain.more_items (plain.Plain value) rest) s ≡ after_items w rest (after_expr w value s)
unfolding after_items after_expr
plain_item w value rest s = after_join _ _ s

pub keyed_item : (w : Within) (key : plain.Expr) (value : plain.Expr) (rest : plain.Items) (s : Walker) → after_items w (plain.more_items (plain.Keyed key value) rest) s ≡ after_items w rest (after_expr w value (after_expr w key s))
unfolding after_items after_expr
keyed_item w key value rest s = after_join _ _ s ∙ ap (after_part (finds.of_items (around_in s w) rest)) (after_join _ _ s)
