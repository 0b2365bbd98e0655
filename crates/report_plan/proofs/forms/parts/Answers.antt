use Rattle.std.proofs.Common.{List, ap, sym, ◌∙◌, refl, arith}
use Rattle.std.proofs.lemmas.Result.{on_ok_weaker}
use Rattle.luau_tree.specs.declared.tree as code
use Rattle.luau_tree.specs.Tree as plain
use Rattle.luau_tree.specs.View.{view_body, view_choices, view_expr, view_exprs, view_items, view_type}
use Rattle.module_facts.proofs.Forms.{assert_expr, at_expr, binary_expr, call_expr, false_expr, function_expr, if_else_expr, index_expr, interp_expr, method_expr, name_expr, nil_expr, number_expr, paren_expr, str_expr, table_expr, true_expr, unary_expr, vararg_expr}
use Rattle.report_plan.specs.Run.{check_meant}
use Rattle.report_plan.proofs.FoundForms.{leaf_parts}
use Rattle.report_plan.proofs.Plans.{put_any, put_as, put_none, put_parts}
use Rattle.report_plan.proofs.forms.parts.Goals as goal

pub returns-in-Nil : goal.returns-in-Nil
returns-in-Nil c =
    let e = c.args.e.now in
    put_parts _ _ (λ rules. check_meant rules c.args.how) _ e.id.0 e.span _ (nil_expr e c.in-Nil.is)
    (put_as _ _ _ _ _ _ (λ rules seen work. leaf_parts rules seen (check_meant rules c.args.how) e.id.0 e.span plain.NilExpr work (λ of. refl)) (omega arith) (put_none c.args.tasks.now.items))

pub returns-in-True : goal.returns-in-True
returns-in-True c =
    let e = c.args.e.now in
    put_parts _ _ (λ rules. check_meant rules c.args.how) _ e.id.0 e.span _ (true_expr e c.in-True.is)
    (put_as _ _ _ _ _ _ (λ rules seen work. leaf_parts rules seen (check_meant rules c.args.how) e.id.0 e.span plain.TrueExpr work (λ of. refl)) (omega arith) (put_none c.args.tasks.now.items))

pub returns-in-False : goal.returns-in-False
returns-in-False c =
    let e = c.args.e.now in
    put_parts _ _ (λ rules. check_meant rules c.args.how) _ e.id.0 e.span _ (false_expr e c.in-False.is)
    (put_as _ _ _ _ _ _ (λ rules seen work. leaf_parts rules seen (check_meant rules c.args.how) e.id.0 e.span plain.FalseExpr work (λ of. refl)) (omega arith) (put_none c.args.tasks.now.items))

pub returns-in-Number : goal.returns-in-Number
returns-in-Number c =
    let e = c.args.e.now in
    put_parts _ _ (λ rules. check_meant rules c.args.how) _ e.id.0 e.span _ (number_expr e c.in-Number.field-0 c.in-Number.is)
    (put_as _ _ _ _ _ _ (λ rules seen work. leaf_parts rules seen (check_meant rules c.args.how) e.id.0 e.span (plain.NumberExpr c.in-Number.field-0) work (λ of. refl)) (omega arith) (put_none c.args.tasks.now.items))

pub returns-in-Str : goal.returns-in-Str
returns-in-Str c =
    let e = c.args.e.now in
    put_parts _ _ (λ rules. check_meant rules c.args.how) _ e.id.0 e.span _ (str_expr e c.in-Str.field-0 c.in-Str.is)
    (put_as _ _ _ _ _ _ (λ rules seen work. leaf_parts rules seen (check_meant rules c.args.how) e.id.0 e.span (plain.StrExpr c.in-Str.field-0) work (λ of. refl)) (omega arith) (put_none c.args.tasks.now.items))

pub returns-in-Vararg : goal.returns-in-Vararg
returns-in-Vararg c =
    let e = c.args.e.now in
    put_parts _ _ (λ rules. check_meant rules c.args.how) _ e.id.0 e.span _ (vararg_expr e c.in-Vararg.is)
    (put_as _ _ _ _ _ _ (λ rules seen work. leaf_parts rules seen (check_meant rules c.args.how) e.id.0 e.span plain.Vararg work (λ of. refl)) (omega arith) (put_none c.args.tasks.now.items))

pub returns-in-Name : goal.returns-in-Name
returns-in-Name c =
    let e = c.args.e.now in
    put_parts _ _ (λ rules. check_meant rules c.args.how) _ e.id.0 e.span _ (name_expr e c.in-Name.field-0 c.in-Name.is)
    (put_as _ _ _ _ _ _ (λ rules seen work. leaf_parts rules seen (check_meant rules c.args.how) e.id.0 e.span (plain.NameExpr c.in-Name.field-0) work (λ of. refl)) (omega arith) (put_none c.args.tasks.now.items))

pub returns-in-Function : goal.returns-in-Function
returns-in-Function c =
    let e = c.args.e.now in
    on_ok_weaker c.function.result
    (λ p. put_parts _ _ (λ rules. check_meant rules c.args.how) _ e.id.0 e.span _
    (function_expr e c.in-Function.body c.in-Function.is
    ∙ ap (λ (x : code.Body.Body). plain.the_expr e.id.0 e.span (plain.FunctionExpr (view_body x))) (sym c.get.ensures))
    (put_any _ _ (λ rules. check_meant rules c.args.how) e.id.0 e.span (plain.FunctionExpr (view_body c.get.result.now)) _ (λ how. p how e.id.0 e.span))) c.function.ensures

pub returns-in-Index : goal.returns-in-Index
returns-in-Index c =
    let e = c.args.e.now in
    on_ok_weaker c.index.result
    (λ p. put_parts _ _ (λ rules. check_meant rules c.args.how) _ e.id.0 e.span _
    (index_expr e c.in-Index.base c.in-Index.name c.in-Index.is
    ∙ ap (λ (x : code.Expr.Expr). plain.the_expr e.id.0 e.span (plain.Index (view_expr x) c.in-Index.name)) (sym c.get-in-Index.ensures))
    (p e.id.0 e.span c.in-Index.name)) c.index.ensures

pub returns-in-At : goal.returns-in-At
returns-in-At c =
    let e = c.args.e.now in
    on_ok_weaker c.at.result
    (λ p. put_parts _ _ (λ rules. check_meant rules c.args.how) _ e.id.0 e.span _
    (at_expr e c.in-At.base c.in-At.key c.in-At.is
    ∙ ap (λ (x : code.Expr.Expr). plain.the_expr e.id.0 e.span (plain.At (view_expr x) (view_expr c.in-At.key))) (sym c.get-in-At.ensures)
    ∙ ap (λ (x : code.Expr.Expr). plain.the_expr e.id.0 e.span (plain.At (view_expr c.get-in-At.result.now) (view_expr x))) (sym c.get-in-At-2.ensures))
    (p e.id.0 e.span)) c.at.ensures

pub returns-in-Call : goal.returns-in-Call
returns-in-Call c =
    let e = c.args.e.now in
    on_ok_weaker c.call.result
    (λ p. put_parts _ _ (λ rules. check_meant rules c.args.how) _ e.id.0 e.span _
    (call_expr e c.in-Call.callee c.in-Call.args c.in-Call.is
    ∙ ap (λ (x : code.Expr.Expr). plain.the_expr e.id.0 e.span (plain.Call (view_expr x) (view_exprs c.in-Call.args))) (sym c.get-in-Call.ensures)
    ∙ ap (λ (x : List code.Expr.Expr). plain.the_expr e.id.0 e.span (plain.Call (view_expr c.get-in-Call.result.now) (view_exprs x))) (sym c.as_slice.ensures))
    (put_any _ _ (λ rules. check_meant rules c.args.how) e.id.0 e.span (plain.Call (view_expr c.get-in-Call.result.now) (view_exprs c.as_slice.result.now)) _ (λ how. p how e.id.0 e.span))) c.call.ensures

pub returns-in-Method : goal.returns-in-Method
returns-in-Method c =
    let e = c.args.e.now in
    on_ok_weaker c.method.result
    (λ p. put_parts _ _ (λ rules. check_meant rules c.args.how) _ e.id.0 e.span _
    (method_expr e c.in-Method.base c.in-Method.name c.in-Method.name_span c.in-Method.args c.in-Method.is
    ∙ ap (λ (x : code.Expr.Expr). plain.the_expr e.id.0 e.span (plain.Method (view_expr x) c.in-Method.name c.in-Method.name_span (view_exprs c.in-Method.args))) (sym c.get-in-Method.ensures)
    ∙ ap (λ (x : List code.Expr.Expr). plain.the_expr e.id.0 e.span (plain.Method (view_expr c.get-in-Method.result.now) c.in-Method.name c.in-Method.name_span (view_exprs x))) (sym c.as_slice-in-Method.ensures))
    (put_any _ _ (λ rules. check_meant rules c.args.how) e.id.0 e.span (plain.Method (view_expr c.get-in-Method.result.now) c.in-Method.name c.in-Method.name_span (view_exprs c.as_slice-in-Method.result.now)) _ (λ how. p how e.id.0 e.span c.in-Method.name c.in-Method.name_span))) c.method.ensures

pub returns-in-Paren : goal.returns-in-Paren
returns-in-Paren c =
    let e = c.args.e.now in
    on_ok_weaker c.inner.result
    (λ p. put_parts _ _ (λ rules. check_meant rules c.args.how) _ e.id.0 e.span _
    (paren_expr e c.in-Paren.e c.in-Paren.is
    ∙ ap (λ (x : code.Expr.Expr). plain.the_expr e.id.0 e.span (plain.Paren (view_expr x))) (sym c.get-in-Paren.ensures))
    (put_any _ _ (λ rules. check_meant rules c.args.how) e.id.0 e.span (plain.Paren (view_expr c.get-in-Paren.result.now)) _ (λ how. p how e.id.0 e.span))) c.inner.ensures.paren

pub returns-in-Unary : goal.returns-in-Unary
returns-in-Unary c =
    let e = c.args.e.now in
    on_ok_weaker c.unary.result
    (λ p. put_parts _ _ (λ rules. check_meant rules c.args.how) _ e.id.0 e.span _
    (unary_expr e c.in-Unary.op c.in-Unary.e c.in-Unary.is
    ∙ ap (λ (x : code.Expr.Expr). plain.the_expr e.id.0 e.span (plain.Unary c.in-Unary.op (view_expr x))) (sym c.get-in-Unary.ensures))
    (put_any _ _ (λ rules. check_meant rules c.args.how) e.id.0 e.span (plain.Unary c.in-Unary.op (view_expr c.get-in-Unary.result.now)) _ (λ how. p how e.id.0 e.span))) c.unary.ensures

pub returns-in-Binary : goal.returns-in-Binary
returns-in-Binary c =
    let e = c.args.e.now in
    on_ok_weaker c.binary.result
    (λ p. put_parts _ _ (λ rules. check_meant rules c.args.how) _ e.id.0 e.span _
    (binary_expr e c.in-Binary.op c.in-Binary.left c.in-Binary.right c.in-Binary.is
    ∙ ap (λ (x : code.Expr.Expr). plain.the_expr e.id.0 e.span (plain.Binary c.in-Binary.op (view_expr x) (view_expr c.in-Binary.right))) (sym c.get-in-Binary.ensures)
    ∙ ap (λ (x : code.Expr.Expr). plain.the_expr e.id.0 e.span (plain.Binary c.in-Binary.op (view_expr c.get-in-Binary.result.now) (view_expr x))) (sym c.get-in-Binary-2.ensures))
    (put_any _ _ (λ rules. check_meant rules c.args.how) e.id.0 e.span (plain.Binary c.in-Binary.op (view_expr c.get-in-Binary.result.now) (view_expr c.get-in-Binary-2.result.now)) _ (λ how. p how e.id.0 e.span))) c.binary.ensures

pub returns-in-IfElse : goal.returns-in-IfElse
returns-in-IfElse c =
    let e = c.args.e.now in
    on_ok_weaker c.if_else_found.result
    (λ p. put_parts _ _ (λ rules. check_meant rules c.args.how) _ e.id.0 e.span _
    (if_else_expr e c.in-IfElse.arms c.in-IfElse.last c.in-IfElse.is
    ∙ ap (λ (x : List code.Choice.Choice). plain.the_expr e.id.0 e.span (plain.IfElse (view_choices x) (view_expr c.in-IfElse.last))) (sym c.as_slice-in-IfElse.ensures)
    ∙ ap (λ (x : code.Expr.Expr). plain.the_expr e.id.0 e.span (plain.IfElse (view_choices c.as_slice-in-IfElse.result.now) (view_expr x))) (sym c.get-in-IfElse.ensures))
    (put_any _ _ (λ rules. check_meant rules c.args.how) e.id.0 e.span (plain.IfElse (view_choices c.as_slice-in-IfElse.result.now) (view_expr c.get-in-IfElse.result.now)) _ (λ how. p how e.id.0 e.span))) c.if_else_found.ensures

pub returns-in-Table : goal.returns-in-Table
returns-in-Table c =
    let e = c.args.e.now in
    on_ok_weaker c.table_found.result
    (λ p. put_parts _ _ (λ rules. check_meant rules c.args.how) _ e.id.0 e.span _
    (table_expr e c.in-Table.items c.in-Table.is
    ∙ ap (λ (x : List code.Item.Item). plain.the_expr e.id.0 e.span (plain.TableExpr (view_items x))) (sym c.as_slice-in-Table.ensures))
    (put_any _ _ (λ rules. check_meant rules c.args.how) e.id.0 e.span (plain.TableExpr (view_items c.as_slice-in-Table.result.now)) _ (λ how. p how e.id.0 e.span))) c.table_found.ensures

pub returns-in-Interp : goal.returns-in-Interp
returns-in-Interp c =
    let e = c.args.e.now in
    on_ok_weaker c.interp.result
    (λ p. put_parts _ _ (λ rules. check_meant rules c.args.how) _ e.id.0 e.span _
    (interp_expr e c.in-Interp.texts c.in-Interp.parts c.in-Interp.is
    ∙ ap (λ (x : List code.Expr.Expr). plain.the_expr e.id.0 e.span (plain.Interp c.in-Interp.texts (view_exprs x))) (sym c.as_slice-in-Interp.ensures))
    (put_any _ _ (λ rules. check_meant rules c.args.how) e.id.0 e.span (plain.Interp c.in-Interp.texts (view_exprs c.as_slice-in-Interp.result.now)) _ (λ how. p how e.id.0 e.span c.in-Interp.texts))) c.interp.ensures

pub returns-in-Assert : goal.returns-in-Assert
returns-in-Assert c =
    let e = c.args.e.now in
    on_ok_weaker c.inner-in-Assert.result
    (λ p. put_parts _ _ (λ rules. check_meant rules c.args.how) _ e.id.0 e.span _
    (assert_expr e c.in-Assert.e c.in-Assert.typ c.in-Assert.is
    ∙ ap (λ (x : code.Expr.Expr). plain.the_expr e.id.0 e.span (plain.Assert (view_expr x) (view_type c.in-Assert.typ))) (sym c.get-in-Assert.ensures))
    (put_any _ _ (λ rules. check_meant rules c.args.how) e.id.0 e.span (plain.Assert (view_expr c.get-in-Assert.result.now) (view_type c.in-Assert.typ)) _ (λ how. p how e.id.0 e.span (view_type c.in-Assert.typ)))) c.inner-in-Assert.ensures.assert
