use Rattle.std.proofs.Common.{List, sym, ap, ◌∙◌}
use Rattle.std.proofs.lemmas.Result.{on_ok_weaker}
use Rattle.luau_tree.specs.declared.names.ExprId.{ExprId}
use Rattle.luau_tree.specs.declared.position.Span.{Span}
use Rattle.luau_tree.specs.declared.tree as code
use Rattle.luau_tree.specs.View.{view_body, view_choices, view_expr, view_exprs, view_items, view_type}
use Rattle.luau_scope.specs.declared.walker.Walker.{Walker}
use Rattle.luau_scope.specs.Finds as finds
use Rattle.luau_scope.specs.Steps.{after_body, after_call, after_choices, after_expr, after_exprs, after_items, after_part, after_type, around_in, run}
use Rattle.luau_scope.proofs.Layers.{expr_layer}
use Rattle.luau_scope.proofs.Pushes.{before, pushed}
use Rattle.luau_scope.proofs.VisitExprs.{assert_visit, at_visit, binary_visit, call_visit, function_visit, if_else_visit, index_visit, inner_visit, interp_visit, leaf_visit, method_visit, name_visit, table_visit, vararg_visit}
use Rattle.luau_scope.proofs.walker.Walker.expr.Goals as goal

pub returns-in-Vararg : goal.returns-in-Vararg
returns-in-Vararg c = ap (run c.args.tasks.now) (c.refuse_if.ensures ∙ sym (vararg_visit c.args.within c.args.e.now c.args.self.now c.in-Vararg.is))

pub returns-in-Function : goal.returns-in-Function
returns-in-Function c =
    pushed c.push.result _ _ _ _ _ _ c.push.ensures.ok (ap (λ (xs : code.Body.Body). run c.args.tasks.now (after_body c.args.within (view_body xs) c.args.self.now)) c.get.ensures
    ∙ ap (run c.args.tasks.now) (sym (function_visit c.args.within c.args.e.now c.in-Function.body c.args.self.now c.in-Function.is)))

pub returns-in-Name : goal.returns-in-Name
returns-in-Name c = on_ok_weaker c.name.result (λ e. ap (run c.args.tasks.now) (e ∙ sym (name_visit c.args.within c.args.e.now c.in-Name.name c.args.self.now c.in-Name.is))) c.name.ensures

pub returns-in_ok-path-in-Index : goal.returns-in_ok-path-in-Index
returns-in_ok-path-in-Index c =
    pushed c.push-in-Index.result _ _ _ _ _ _ c.push-in-Index.ensures.ok (ap (λ (u : Walker). run c.args.tasks.now (after_expr c.args.within (view_expr c.get-in-Index-2.result.now) u)) c.in_ok-path-in-Index.ensures
    ∙ ap (λ (xs : code.Expr.Expr). run c.args.tasks.now (after_expr c.args.within (view_expr c.get-in-Index-2.result.now) (after_part (finds.of_path (around_in c.args.self.now c.args.within) c.args.e.now.id (finds.kind_of (view_expr xs)) c.in-Index.name) c.args.self.now))) c.get-in-Index.ensures
    ∙ ap (λ (xs : code.Expr.Expr). run c.args.tasks.now (after_expr c.args.within (view_expr xs) (after_part (finds.of_path (around_in c.args.self.now c.args.within) c.args.e.now.id (finds.kind_of (view_expr c.in-Index.base)) c.in-Index.name) c.args.self.now))) c.get-in-Index-2.ensures
    ∙ ap (run c.args.tasks.now) (sym (index_visit c.args.within c.args.e.now c.in-Index.base c.in-Index.name c.args.self.now c.in-Index.is)))

pub returns-in_ok-push-in-At : goal.returns-in_ok-push-in-At
returns-in_ok-push-in-At c =
    pushed c.push-in-At-2.result _ _ _ _ _ _ c.push-in-At-2.ensures.ok (before _ _ _ _ c.in_ok-push-in-At.ensures.ok
    ∙ ap (λ (xs : code.Expr.Expr). run c.args.tasks.now (after_expr c.args.within (view_expr xs) (after_expr c.args.within (view_expr c.get-in-At-2.result.now) c.args.self.now))) c.get-in-At.ensures
    ∙ ap (λ (xs : code.Expr.Expr). run c.args.tasks.now (after_expr c.args.within (view_expr c.in-At.key) (after_expr c.args.within (view_expr xs) c.args.self.now))) c.get-in-At-2.ensures
    ∙ ap (run c.args.tasks.now) (sym (at_visit c.args.within c.args.e.now c.in-At.base c.in-At.key c.args.self.now c.in-At.is)))

pub returns-in-Call : goal.returns-in-Call
returns-in-Call c =
    on_ok_weaker c.call.result (λ e. e
    ∙ ap (λ (xs : ExprId). run c.args.tasks.now (after_call c.args.within xs (finds.span_of (view_expr c.args.e.now)) (view_expr c.get-in-Call.result.now) (view_exprs c.as_slice.result.now) c.args.self.now)) (ap finds.id_of (expr_layer c.args.e.now))
    ∙ ap (λ (xs : Span). run c.args.tasks.now (after_call c.args.within c.args.e.now.id xs (view_expr c.get-in-Call.result.now) (view_exprs c.as_slice.result.now) c.args.self.now)) (ap finds.span_of (expr_layer c.args.e.now))
    ∙ ap (λ (xs : code.Expr.Expr). run c.args.tasks.now (after_call c.args.within c.args.e.now.id c.args.e.now.span (view_expr xs) (view_exprs c.as_slice.result.now) c.args.self.now)) c.get-in-Call.ensures
    ∙ ap (λ (xs : List code.Expr.Expr). run c.args.tasks.now (after_call c.args.within c.args.e.now.id c.args.e.now.span (view_expr c.in-Call.callee) (view_exprs xs) c.args.self.now)) c.as_slice.ensures
    ∙ ap (run c.args.tasks.now) (sym (call_visit c.args.within c.args.e.now c.in-Call.callee c.in-Call.args c.args.self.now c.in-Call.is))) c.call.ensures

pub returns-in_ok-push-in-Method : goal.returns-in_ok-push-in-Method
returns-in_ok-push-in-Method c =
    pushed c.push-in-Method-2.result _ _ _ _ _ _ c.push-in-Method-2.ensures.ok (before _ _ _ _ c.in_ok-push-in-Method.ensures.ok
    ∙ ap (λ (xs : List code.Expr.Expr). run c.args.tasks.now (after_exprs c.args.within (view_exprs xs) (after_expr c.args.within (view_expr c.get-in-Method.result.now) c.args.self.now))) c.as_slice-in-Method.ensures
    ∙ ap (λ (xs : code.Expr.Expr). run c.args.tasks.now (after_exprs c.args.within (view_exprs c.in-Method.args) (after_expr c.args.within (view_expr xs) c.args.self.now))) c.get-in-Method.ensures
    ∙ ap (run c.args.tasks.now) (sym (method_visit c.args.within c.args.e.now c.in-Method.base _ _ c.in-Method.args c.args.self.now c.in-Method.is)))

pub returns-in_ok-push-in-Binary : goal.returns-in_ok-push-in-Binary
returns-in_ok-push-in-Binary c =
    pushed c.push-in-Binary-2.result _ _ _ _ _ _ c.push-in-Binary-2.ensures.ok (before _ _ _ _ c.in_ok-push-in-Binary.ensures.ok
    ∙ ap (λ (xs : code.Expr.Expr). run c.args.tasks.now (after_expr c.args.within (view_expr xs) (after_expr c.args.within (view_expr c.get-in-Binary-2.result.now) c.args.self.now))) c.get-in-Binary.ensures
    ∙ ap (λ (xs : code.Expr.Expr). run c.args.tasks.now (after_expr c.args.within (view_expr c.in-Binary.right) (after_expr c.args.within (view_expr xs) c.args.self.now))) c.get-in-Binary-2.ensures
    ∙ ap (run c.args.tasks.now) (sym (binary_visit c.args.within c.args.e.now _ c.in-Binary.left c.in-Binary.right c.args.self.now c.in-Binary.is)))

pub returns-in_ok-push-in-IfElse : goal.returns-in_ok-push-in-IfElse
returns-in_ok-push-in-IfElse c =
    pushed c.push-in-IfElse-2.result _ _ _ _ _ _ c.push-in-IfElse-2.ensures.ok (before _ _ _ _ c.in_ok-push-in-IfElse.ensures.ok
    ∙ ap (λ (xs : code.Expr.Expr). run c.args.tasks.now (after_expr c.args.within (view_expr xs) (after_choices c.args.within (view_choices c.as_slice-in-IfElse.result.now) c.args.self.now))) c.get-in-IfElse.ensures
    ∙ ap (λ (xs : List code.Choice.Choice). run c.args.tasks.now (after_expr c.args.within (view_expr c.in-IfElse.last) (after_choices c.args.within (view_choices xs) c.args.self.now))) c.as_slice-in-IfElse.ensures
    ∙ ap (run c.args.tasks.now) (sym (if_else_visit c.args.within c.args.e.now c.in-IfElse.arms c.in-IfElse.last c.args.self.now c.in-IfElse.is)))

pub returns-in-Table : goal.returns-in-Table
returns-in-Table c =
    pushed c.push-in-Table.result _ _ _ _ _ _ c.push-in-Table.ensures.ok (ap (λ (xs : List code.Item.Item). run c.args.tasks.now (after_items c.args.within (view_items xs) c.args.self.now)) c.as_slice-in-Table.ensures
    ∙ ap (run c.args.tasks.now) (sym (table_visit c.args.within c.args.e.now c.in-Table.items c.args.self.now c.in-Table.is)))

pub returns-in-Interp : goal.returns-in-Interp
returns-in-Interp c =
    pushed c.push-in-Interp.result _ _ _ _ _ _ c.push-in-Interp.ensures.ok (ap (λ (xs : List code.Expr.Expr). run c.args.tasks.now (after_exprs c.args.within (view_exprs xs) c.args.self.now)) c.as_slice-in-Interp.ensures
    ∙ ap (run c.args.tasks.now) (sym (interp_visit c.args.within c.args.e.now _ c.in-Interp.parts c.args.self.now c.in-Interp.is)))

pub returns-in_ok-push-in-Assert : goal.returns-in_ok-push-in-Assert
returns-in_ok-push-in-Assert c =
    pushed c.push-in-Assert-2.result _ _ _ _ _ _ c.push-in-Assert-2.ensures.ok (before _ _ _ _ c.in_ok-push-in-Assert.ensures.ok
    ∙ ap (λ (xs : code.TypeSyntax.TypeSyntax). run c.args.tasks.now (after_type c.args.within (view_type xs) (after_expr c.args.within (view_expr c.get-in-Assert-2.result.now) c.args.self.now))) c.get-in-Assert.ensures
    ∙ ap (λ (xs : code.Expr.Expr). run c.args.tasks.now (after_type c.args.within (view_type c.in-Assert.typ) (after_expr c.args.within (view_expr xs) c.args.self.now))) c.get-in-Assert-2.ensures
    ∙ ap (run c.args.tasks.now) (sym (assert_visit c.args.within c.args.e.now c.in-Assert.inner c.in-Assert.typ c.args.self.now c.in-Assert.is)))

pub returns-in-Nil : goal.returns-in-Nil
returns-in-Nil c = ap (run c.args.tasks.now) (sym (leaf_visit c.args.within c.args.e.now c.args.self.now c.in-Nil.is))

pub returns-in-Nil-2 : goal.returns-in-Nil-2
returns-in-Nil-2 c = ap (run c.args.tasks.now) (sym (leaf_visit c.args.within c.args.e.now c.args.self.now c.in-Nil.is))

pub returns-in-Nil-3 : goal.returns-in-Nil-3
returns-in-Nil-3 c = ap (run c.args.tasks.now) (sym (leaf_visit c.args.within c.args.e.now c.args.self.now c.in-Nil.is))

pub returns-in-Nil-4 : goal.returns-in-Nil-4
returns-in-Nil-4 c = ap (run c.args.tasks.now) (sym (leaf_visit c.args.within c.args.e.now c.args.self.now c.in-Nil.is))

pub returns-in-Nil-5 : goal.returns-in-Nil-5
returns-in-Nil-5 c = ap (run c.args.tasks.now) (sym (leaf_visit c.args.within c.args.e.now c.args.self.now c.in-Nil.is))

pub returns-in-Paren : goal.returns-in-Paren
returns-in-Paren c =
    pushed c.push-in-Paren.result _ _ _ _ _ _ c.push-in-Paren.ensures.ok (ap (λ (xs : code.Expr.Expr). run c.args.tasks.now (after_expr c.args.within (view_expr xs) c.args.self.now)) c.get-in-Paren.ensures
    ∙ ap (run c.args.tasks.now) (sym (inner_visit c.args.within c.args.e.now c.in-Paren.inner c.args.self.now c.in-Paren.is)))
