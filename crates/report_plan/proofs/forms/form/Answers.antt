use Rattle.std.proofs.Common.{List, ap, sym, ◌∙◌, refl, arith}
use Rattle.std.proofs.lemmas.Result.{on_ok_weaker}
use Rattle.luau_tree.specs.declared.tree as code
use Rattle.luau_tree.specs.Tree as plain
use Rattle.luau_tree.specs.View.{view_body, view_choices, view_expr, view_exprs, view_items, view_type}
use Rattle.module_facts.proofs.Forms.{assert_expr, at_expr, binary_expr, call_expr, false_expr, function_expr, if_else_expr, index_expr, interp_expr, method_expr, name_expr, nil_expr, number_expr, paren_expr, str_expr, table_expr, true_expr, unary_expr, vararg_expr}
use Rattle.report_work.specs.Expressions.{with_ev_name}
use Rattle.report_plan.proofs.EvForms.{leaf_form, name_form}
use Rattle.report_plan.proofs.Plans.{put_as, put_form}
use Rattle.report_plan.proofs.forms.form.Goals as goal

pub returns-in-Nil : goal.returns-in-Nil
returns-in-Nil c =
    let e = c.args.e.now in
    on_ok_weaker c.plan.result (λ p. put_form _ _ _ e.id.0 e.span _ (nil_expr e c.in-Nil.is) (put_as _ _ _ _ _ _ (λ rules seen work. leaf_form rules seen e.id.0 plain.NilExpr work (λ set. refl)) (omega arith) p)) c.plan.ensures

pub returns-in-True : goal.returns-in-True
returns-in-True c =
    let e = c.args.e.now in
    on_ok_weaker c.plan-in-True.result (λ p. put_form _ _ _ e.id.0 e.span _ (true_expr e c.in-True.is) (put_as _ _ _ _ _ _ (λ rules seen work. leaf_form rules seen e.id.0 plain.TrueExpr work (λ set. refl)) (omega arith) p)) c.plan-in-True.ensures

pub returns-in-False : goal.returns-in-False
returns-in-False c =
    let e = c.args.e.now in
    on_ok_weaker c.plan-in-False.result (λ p. put_form _ _ _ e.id.0 e.span _ (false_expr e c.in-False.is) (put_as _ _ _ _ _ _ (λ rules seen work. leaf_form rules seen e.id.0 plain.FalseExpr work (λ set. refl)) (omega arith) p)) c.plan-in-False.ensures

pub returns-in-Number : goal.returns-in-Number
returns-in-Number c =
    let e = c.args.e.now in
    on_ok_weaker c.plan-in-Number.result (λ p. put_form _ _ _ e.id.0 e.span _ (number_expr e c.in-Number.field-0 c.in-Number.is) (put_as _ _ _ _ _ _ (λ rules seen work. leaf_form rules seen e.id.0 (plain.NumberExpr c.in-Number.field-0) work (λ set. refl)) (omega arith) p)) c.plan-in-Number.ensures

pub returns-in-Str : goal.returns-in-Str
returns-in-Str c =
    let e = c.args.e.now in
    on_ok_weaker c.plan-in-Str.result (λ p. put_form _ _ _ e.id.0 e.span _ (str_expr e c.in-Str.field-0 c.in-Str.is) (put_as _ _ _ _ _ _ (λ rules seen work. leaf_form rules seen e.id.0 (plain.StrExpr c.in-Str.field-0) work (λ set. refl)) (omega arith) p)) c.plan-in-Str.ensures

pub returns-in-Vararg : goal.returns-in-Vararg
returns-in-Vararg c =
    let e = c.args.e.now in
    on_ok_weaker c.plan-in-Vararg.result (λ p. put_form _ _ _ e.id.0 e.span _ (vararg_expr e c.in-Vararg.is) (put_as _ _ _ _ _ _ (λ rules seen work. leaf_form rules seen e.id.0 plain.Vararg work (λ set. refl)) (omega arith) p)) c.plan-in-Vararg.ensures

pub returns-in-Function : goal.returns-in-Function
returns-in-Function c =
    let e = c.args.e.now in
    on_ok_weaker c.plan-in-Function.result (λ p. put_form _ _ _ e.id.0 e.span _ (function_expr e c.in-Function.field-0 c.in-Function.is) (put_as _ _ _ _ _ _ (λ rules seen work. leaf_form rules seen e.id.0 (plain.FunctionExpr (view_body c.in-Function.field-0)) work (λ set. refl)) (omega arith) p)) c.plan-in-Function.ensures

pub returns-in-Name : goal.returns-in-Name
returns-in-Name c =
    let e = c.args.e.now in
    let name = c.in-Name.field-0 in
    on_ok_weaker c.plan-in-Name.result
    (λ p. put_form _ _ _ e.id.0 e.span _ (name_expr e name c.in-Name.is)
    (put_as _ _ _ _ _ _ (λ rules seen work. ap (λ (x : plain.Expr). with_ev_name rules x work) (name_expr e name c.in-Name.is) ∙ name_form rules seen e.id.0 e.span name work) (omega arith) p)) c.plan-in-Name.ensures

pub returns-in-Index : goal.returns-in-Index
returns-in-Index c =
    let e = c.args.e.now in
    on_ok_weaker c.index.result
    (λ p. put_form _ _ _ e.id.0 e.span _
    (index_expr e c.in-Index.base c.in-Index.name c.in-Index.is
    ∙ ap (λ (x : code.Expr.Expr). plain.the_expr e.id.0 e.span (plain.Index (view_expr x) c.in-Index.name)) (sym c.get.ensures))
    (p e.id.0)) c.index.ensures

pub returns-in-At : goal.returns-in-At
returns-in-At c =
    let e = c.args.e.now in
    on_ok_weaker c.at.result
    (λ p. put_form _ _ _ e.id.0 e.span _
    (at_expr e c.in-At.base c.in-At.key c.in-At.is
    ∙ ap (λ (x : code.Expr.Expr). plain.the_expr e.id.0 e.span (plain.At (view_expr x) (view_expr c.in-At.key))) (sym c.get-in-At.ensures)
    ∙ ap (λ (x : code.Expr.Expr). plain.the_expr e.id.0 e.span (plain.At (view_expr c.get-in-At.result.now) (view_expr x))) (sym c.get-in-At-2.ensures))
    (p e.id.0)) c.at.ensures

pub returns-in-Call : goal.returns-in-Call
returns-in-Call c =
    let e = c.args.e.now in
    on_ok_weaker c.call.result
    (λ p. put_form _ _ _ e.id.0 e.span _
    (call_expr e c.in-Call.callee c.in-Call.args c.in-Call.is
    ∙ ap (λ (x : code.Expr.Expr). plain.the_expr e.id.0 e.span (plain.Call (view_expr x) (view_exprs c.in-Call.args))) (sym c.get-in-Call.ensures)
    ∙ ap (λ (x : List code.Expr.Expr). plain.the_expr e.id.0 e.span (plain.Call (view_expr c.get-in-Call.result.now) (view_exprs x))) (sym c.as_slice.ensures))
    (p e.id.0)) c.call.ensures

pub returns-in-Method : goal.returns-in-Method
returns-in-Method c =
    let e = c.args.e.now in
    on_ok_weaker c.method.result
    (λ p. put_form _ _ _ e.id.0 e.span _
    (method_expr e c.in-Method.base c.in-Method.name c.in-Method.name_span c.in-Method.args c.in-Method.is
    ∙ ap (λ (x : code.Expr.Expr). plain.the_expr e.id.0 e.span (plain.Method (view_expr x) c.in-Method.name c.in-Method.name_span (view_exprs c.in-Method.args))) (sym c.get-in-Method.ensures)
    ∙ ap (λ (x : List code.Expr.Expr). plain.the_expr e.id.0 e.span (plain.Method (view_expr c.get-in-Method.result.now) c.in-Method.name c.in-Method.name_span (view_exprs x))) (sym c.as_slice-in-Method.ensures))
    (p e.id.0 c.in-Method.name_span)) c.method.ensures

pub returns-in-Paren : goal.returns-in-Paren
returns-in-Paren c =
    let e = c.args.e.now in
    on_ok_weaker c.inner.result
    (λ p. put_form _ _ _ e.id.0 e.span _
    (paren_expr e c.in-Paren.e c.in-Paren.is
    ∙ ap (λ (x : code.Expr.Expr). plain.the_expr e.id.0 e.span (plain.Paren (view_expr x))) (sym c.get-in-Paren.ensures))
    (p e.id.0)) c.inner.ensures.paren

pub returns-in-Unary : goal.returns-in-Unary
returns-in-Unary c =
    let e = c.args.e.now in
    on_ok_weaker c.unary.result
    (λ p. put_form _ _ _ e.id.0 e.span _
    (unary_expr e c.in-Unary.op c.in-Unary.e c.in-Unary.is
    ∙ ap (λ (x : code.Expr.Expr). plain.the_expr e.id.0 e.span (plain.Unary c.in-Unary.op (view_expr x))) (sym c.get-in-Unary.ensures))
    (p e.id.0)) c.unary.ensures

pub returns-in-Binary : goal.returns-in-Binary
returns-in-Binary c =
    let e = c.args.e.now in
    on_ok_weaker c.binary.result
    (λ p. put_form _ _ _ e.id.0 e.span _
    (binary_expr e c.in-Binary.op c.in-Binary.left c.in-Binary.right c.in-Binary.is
    ∙ ap (λ (x : code.Expr.Expr). plain.the_expr e.id.0 e.span (plain.Binary c.in-Binary.op (view_expr x) (view_expr c.in-Binary.right))) (sym c.get-in-Binary.ensures)
    ∙ ap (λ (x : code.Expr.Expr). plain.the_expr e.id.0 e.span (plain.Binary c.in-Binary.op (view_expr c.get-in-Binary.result.now) (view_expr x))) (sym c.get-in-Binary-2.ensures))
    (p e.id.0)) c.binary.ensures

pub returns-in-IfElse : goal.returns-in-IfElse
returns-in-IfElse c =
    let e = c.args.e.now in
    on_ok_weaker c.if_else.result
    (λ p. put_form _ _ _ e.id.0 e.span _
    (if_else_expr e c.in-IfElse.arms c.in-IfElse.last c.in-IfElse.is
    ∙ ap (λ (x : List code.Choice.Choice). plain.the_expr e.id.0 e.span (plain.IfElse (view_choices x) (view_expr c.in-IfElse.last))) (sym c.as_slice-in-IfElse.ensures)
    ∙ ap (λ (x : code.Expr.Expr). plain.the_expr e.id.0 e.span (plain.IfElse (view_choices c.as_slice-in-IfElse.result.now) (view_expr x))) (sym c.get-in-IfElse.ensures))
    (p e.id.0)) c.if_else.ensures

pub returns-in-Table : goal.returns-in-Table
returns-in-Table c =
    let e = c.args.e.now in
    on_ok_weaker c.table.result
    (λ p. put_form _ _ _ e.id.0 e.span _
    (table_expr e c.in-Table.items c.in-Table.is
    ∙ ap (λ (x : List code.Item.Item). plain.the_expr e.id.0 e.span (plain.TableExpr (view_items x))) (sym c.as_slice-in-Table.ensures))
    (p e.id.0)) c.table.ensures

pub returns-in-Interp : goal.returns-in-Interp
returns-in-Interp c =
    let e = c.args.e.now in
    on_ok_weaker c.interp.result
    (λ p. put_form _ _ _ e.id.0 e.span _
    (interp_expr e c.in-Interp.texts c.in-Interp.parts c.in-Interp.is
    ∙ ap (λ (x : List code.Expr.Expr). plain.the_expr e.id.0 e.span (plain.Interp c.in-Interp.texts (view_exprs x))) (sym c.as_slice-in-Interp.ensures))
    (p e.id.0 c.in-Interp.texts)) c.interp.ensures

pub returns-in-Assert : goal.returns-in-Assert
returns-in-Assert c =
    let e = c.args.e.now in
    on_ok_weaker c.inner-in-Assert.result
    (λ p. put_form _ _ _ e.id.0 e.span _
    (assert_expr e c.in-Assert.e c.in-Assert.typ c.in-Assert.is
    ∙ ap (λ (x : code.Expr.Expr). plain.the_expr e.id.0 e.span (plain.Assert (view_expr x) (view_type c.in-Assert.typ))) (sym c.get-in-Assert.ensures))
    (p e.id.0 (view_type c.in-Assert.typ))) c.inner-in-Assert.ensures.assert
