-- Targets that are no fields, no elements and no names, as code finds them.
use Rattle.std.proofs.Common.{◌≡◌, ℕ, Bool, true, false, List, refl, sym, ap, ◌∙◌}
use Rattle.std.specs.Prelude.{Option, Some, None}
use Rattle.luau_tree.specs.declared.tree as code
use Rattle.luau_tree.specs.declared.tree.ExprKind.{ExprKind-F}
use Rattle.luau_tree.specs.declared.tree.ExprKind.TheOpen as layer
use Rattle.luau_tree.specs.declared.tree.ExprKind.TheViews as part
use Rattle.luau_tree.specs.declared.tree.ExprKind.TheVariants as an_expr
use Rattle.luau_tree.specs.Tree as plain
use Rattle.luau_tree.specs.View.{view_expr, view_expr_kind}
use Rattle.luau_tree.proofs.Views.{assert_expr_seen, at_expr_seen, binary_expr_seen, call_expr_seen, false_expr_seen, function_expr_seen, if_else_expr_seen, index_expr_seen, interp_expr_seen, method_expr_seen, name_expr_seen, nil_expr_seen, number_expr_seen, paren_expr_seen, str_expr_seen, table_expr_seen, true_expr_seen, unary_expr_seen, vararg_expr_seen}
use Rattle.luau_scope.specs.Finds.{kind_of}
use Rattle.luau_scope.specs.Steps.{name_in}
use Rattle.luau_scope.proofs.NameForms.{kind_seen, unnamed}
use Rattle.type_arena.specs.Term.{Term}
use Rattle.report_rules.specs.Rules.{Rules}
use Rattle.report_rules.specs.Seen.{Seen}
use Rattle.report_rules.specs.Context.{Context, none, join}
use Rattle.report_rules.specs.Statements.{ev_target, ev_compound}

-- whether a kind is that of a field or of an element
abbrev is_place : plain.ExprKind → Bool
is_place (plain.Index base name) = true
is_place (plain.At base key) = true
is_place _ = false

-- the same of what code finds
unplaced_as : (k l : code.ExprKind.ExprKind) (kind : plain.ExprKind) → k ≡ l → view_expr_kind l ≡ kind → is_place kind ≡ false → is_place (view_expr_kind k) ≡ false
unplaced_as k l kind same is no_place = ap (λ (x : code.ExprKind.ExprKind). is_place (view_expr_kind x)) same ∙ ap is_place is ∙ no_place

unplaced_layer : (f : ExprKind-F code.ExprKind.ExprKind code.Item.Item code.PropKey.PropKey code.StatKind.StatKind code.TypeKind.TypeKind code.Arm.Arm code.Bind.Bind code.Block.Block code.Body.Body code.Choice.Choice code.Expr.Expr code.Gen.Gen code.Prop.Prop code.Stat.Stat code.TypeSyntax.TypeSyntax)
    → ((base : code.Expr.Expr) (name : List ℕ) → part.roll-ExprKind f ≡ an_expr.Index base name → ⊥) → ((base key : code.Expr.Expr) → part.roll-ExprKind f ≡ an_expr.At base key → ⊥)
    → is_place (view_expr_kind (part.roll-ExprKind f)) ≡ false
unplaced_layer layer.«ExprKind::Nil» not_index not_at = unplaced_as _ _ _ an_expr.rolls-Nil nil_expr_seen refl
unplaced_layer layer.True not_index not_at = unplaced_as _ _ _ an_expr.rolls-True true_expr_seen refl
unplaced_layer layer.False not_index not_at = unplaced_as _ _ _ an_expr.rolls-False false_expr_seen refl
unplaced_layer (layer.Number text) not_index not_at = unplaced_as _ _ _ (an_expr.rolls-Number text) (number_expr_seen text) refl
unplaced_layer (layer.«ExprKind::Str» bytes) not_index not_at = unplaced_as _ _ _ (an_expr.rolls-Str bytes) (str_expr_seen bytes) refl
unplaced_layer layer.Vararg not_index not_at = unplaced_as _ _ _ an_expr.rolls-Vararg vararg_expr_seen refl
unplaced_layer (layer.«ExprKind::Function» body) not_index not_at = unplaced_as _ _ _ (an_expr.rolls-Function body) (function_expr_seen body) refl
unplaced_layer (layer.«ExprKind::Name» name) not_index not_at = unplaced_as _ _ _ (an_expr.rolls-Name name) (name_expr_seen name) refl
unplaced_layer (layer.Index base name) not_index not_at = absurd (not_index base name (an_expr.rolls-Index base name))
unplaced_layer (layer.At base key) not_index not_at = absurd (not_at base key (an_expr.rolls-At base key))
unplaced_layer (layer.Call callee args) not_index not_at = unplaced_as _ _ _ (an_expr.rolls-Call callee args) (call_expr_seen callee args) refl
unplaced_layer (layer.Method base name name_span args) not_index not_at = unplaced_as _ _ _ (an_expr.rolls-Method base name name_span args) (method_expr_seen base name name_span args) refl
unplaced_layer (layer.Paren e) not_index not_at = unplaced_as _ _ _ (an_expr.rolls-Paren e) (paren_expr_seen e) refl
unplaced_layer (layer.Unary op e) not_index not_at = unplaced_as _ _ _ (an_expr.rolls-Unary op e) (unary_expr_seen op e) refl
unplaced_layer (layer.Binary op left right) not_index not_at = unplaced_as _ _ _ (an_expr.rolls-Binary op left right) (binary_expr_seen op left right) refl
unplaced_layer (layer.IfElse arms last) not_index not_at = unplaced_as _ _ _ (an_expr.rolls-IfElse arms last) (if_else_expr_seen arms last) refl
unplaced_layer (layer.«ExprKind::Table» items) not_index not_at = unplaced_as _ _ _ (an_expr.rolls-Table items) (table_expr_seen items) refl
unplaced_layer (layer.Interp texts parts) not_index not_at = unplaced_as _ _ _ (an_expr.rolls-Interp texts parts) (interp_expr_seen texts parts) refl
unplaced_layer (layer.Assert e typ) not_index not_at = unplaced_as _ _ _ (an_expr.rolls-Assert e typ) (assert_expr_seen e typ) refl

unplaced : (e : code.Expr.Expr) → ((base : code.Expr.Expr) (name : List ℕ) → e.kind ≡ an_expr.Index base name → ⊥) → ((base key : code.Expr.Expr) → e.kind ≡ an_expr.At base key → ⊥)
    → is_place (kind_of (view_expr e)) ≡ false
unplaced e not_index not_at =
    let rolled = part.roll-out-ExprKind e.kind in
    ap is_place (kind_seen e)
    ∙ ap (λ (k : code.ExprKind.ExprKind). is_place (view_expr_kind k)) (sym rolled)
    ∙ unplaced_layer (part.out-ExprKind e.kind) (λ base name is. not_index base name (sym rolled ∙ is)) (λ base key is. not_at base key (sym rolled ∙ is))

-- what is made of those
plain_target : (rules : Rules) (seen : List Seen) (e : plain.Expr) (behind : Context) → is_place (kind_of e) ≡ false → ev_target rules seen e behind ≡ behind
plain_target rules seen (plain.the_expr id span (plain.Index base name)) behind is = cc
plain_target rules seen (plain.the_expr id span (plain.At base key)) behind is = cc
plain_target rules seen (plain.the_expr id span _) behind is = refl

plain_compound : (rules : Rules) (seen : List Seen) (e : plain.Expr) (old : Term) (behind : Context) → is_place (kind_of e) ≡ false → name_in (kind_of e) ≡ None
    → ev_compound rules seen e old behind ≡ join none behind
plain_compound rules seen (plain.the_expr id span (plain.Index base name)) old behind is no_name = cc
plain_compound rules seen (plain.the_expr id span (plain.At base key)) old behind is no_name = cc
plain_compound rules seen (plain.the_expr id span (plain.NameExpr name)) old behind is no_name = cc
plain_compound rules seen (plain.the_expr id span _) old behind is no_name = refl

pub bare_target : (e : code.Expr.Expr) → ((base : code.Expr.Expr) (name : List ℕ) → e.kind ≡ an_expr.Index base name → ⊥) → ((base key : code.Expr.Expr) → e.kind ≡ an_expr.At base key → ⊥)
    → (rules : Rules) (seen : List Seen) (behind : Context) → ev_target rules seen (view_expr e) behind ≡ behind
bare_target e not_index not_at rules seen behind = plain_target rules seen (view_expr e) behind (unplaced e not_index not_at)

pub bare_compound : (e : code.Expr.Expr) → ((base : code.Expr.Expr) (name : List ℕ) → e.kind ≡ an_expr.Index base name → ⊥) → ((base key : code.Expr.Expr) → e.kind ≡ an_expr.At base key → ⊥)
    → ((name : List ℕ) → e.kind ≡ an_expr.Name name → ⊥)
    → (rules : Rules) (seen : List Seen) (old : Term) (behind : Context) → ev_compound rules seen (view_expr e) old behind ≡ join none behind
bare_compound e not_index not_at not_name rules seen old behind = plain_compound rules seen (view_expr e) old behind (unplaced e not_index not_at) (unnamed e not_name)
