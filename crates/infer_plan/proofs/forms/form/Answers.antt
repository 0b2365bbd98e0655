use Rattle.std.proofs.Common.{◌≡◌, List, refl, sym, ap, ◌∙◌, arith}
use Rattle.luau_tree.specs.declared.tree as code
use Rattle.luau_tree.specs.Tree as plain
use Rattle.std.proofs.lemmas.Result.{on_ok_weaker}
use Rattle.luau_tree.specs.View.{view_body, view_choices, view_expr, view_exprs, view_items, view_type}
use Rattle.infer_plan.specs.Run.{run}
use Rattle.infer_plan.specs.Steps.{with_form, with_name}
use Rattle.infer_plan.specs.Weights.{form_weight}
use Rattle.infer_plan.proofs.ExprForms.{leaf_form}
use Rattle.module_facts.proofs.Forms.{nil_expr, true_expr, false_expr, number_expr, str_expr, vararg_expr, function_expr, name_expr, index_expr, at_expr, call_expr, method_expr, paren_expr, unary_expr, binary_expr, if_else_expr, table_expr, interp_expr, assert_expr}
use Rattle.infer_plan.proofs.forms.form.Goals as goal

pub returns-in-Nil-clause-work : goal.returns-in-Nil-clause-work
returns-in-Nil-clause-work c =
    let x = c.args.e.now in
    let is : view_expr x ≡ plain.the_expr x.id.0 x.span (plain.NilExpr) =
    nil_expr x c.in-Nil.is in
    on_ok_weaker c.plan.result (λ made rules work read. made rules work ∙ ap (run rules c.args.tasks.now.items) (leaf_form rules x.id.0 (plain.NilExpr) work refl) ∙ ap (λ (y : plain.Expr). run rules c.args.tasks.now.items (with_form rules y work)) (sym is)) c.plan.ensures.work

pub returns-in-Nil-clause-light : goal.returns-in-Nil-clause-light
returns-in-Nil-clause-light c =
    let x = c.args.e.now in
    let is : view_expr x ≡ plain.the_expr x.id.0 x.span (plain.NilExpr) =
    nil_expr x c.in-Nil.is in
    on_ok_weaker c.plan.result (λ light. omega (arith, light, ap form_weight is)) c.plan.ensures.light

pub returns-in-True-clause-work : goal.returns-in-True-clause-work
returns-in-True-clause-work c =
    let x = c.args.e.now in
    let is : view_expr x ≡ plain.the_expr x.id.0 x.span (plain.TrueExpr) =
    true_expr x c.in-True.is in
    on_ok_weaker c.plan-in-True.result (λ made rules work read. made rules work ∙ ap (run rules c.args.tasks.now.items) (leaf_form rules x.id.0 (plain.TrueExpr) work refl) ∙ ap (λ (y : plain.Expr). run rules c.args.tasks.now.items (with_form rules y work)) (sym is)) c.plan-in-True.ensures.work

pub returns-in-True-clause-light : goal.returns-in-True-clause-light
returns-in-True-clause-light c =
    let x = c.args.e.now in
    let is : view_expr x ≡ plain.the_expr x.id.0 x.span (plain.TrueExpr) =
    true_expr x c.in-True.is in
    on_ok_weaker c.plan-in-True.result (λ light. omega (arith, light, ap form_weight is)) c.plan-in-True.ensures.light

pub returns-in-False-clause-work : goal.returns-in-False-clause-work
returns-in-False-clause-work c =
    let x = c.args.e.now in
    let is : view_expr x ≡ plain.the_expr x.id.0 x.span (plain.FalseExpr) =
    false_expr x c.in-False.is in
    on_ok_weaker c.plan-in-False.result (λ made rules work read. made rules work ∙ ap (run rules c.args.tasks.now.items) (leaf_form rules x.id.0 (plain.FalseExpr) work refl) ∙ ap (λ (y : plain.Expr). run rules c.args.tasks.now.items (with_form rules y work)) (sym is)) c.plan-in-False.ensures.work

pub returns-in-False-clause-light : goal.returns-in-False-clause-light
returns-in-False-clause-light c =
    let x = c.args.e.now in
    let is : view_expr x ≡ plain.the_expr x.id.0 x.span (plain.FalseExpr) =
    false_expr x c.in-False.is in
    on_ok_weaker c.plan-in-False.result (λ light. omega (arith, light, ap form_weight is)) c.plan-in-False.ensures.light

pub returns-in-Number-clause-work : goal.returns-in-Number-clause-work
returns-in-Number-clause-work c =
    let x = c.args.e.now in
    let is : view_expr x ≡ plain.the_expr x.id.0 x.span (plain.NumberExpr c.in-Number.field-0) =
    number_expr x c.in-Number.field-0 c.in-Number.is in
    on_ok_weaker c.plan-in-Number.result (λ made rules work read. made rules work ∙ ap (run rules c.args.tasks.now.items) (leaf_form rules x.id.0 (plain.NumberExpr c.in-Number.field-0) work refl) ∙ ap (λ (y : plain.Expr). run rules c.args.tasks.now.items (with_form rules y work)) (sym is)) c.plan-in-Number.ensures.work

pub returns-in-Number-clause-light : goal.returns-in-Number-clause-light
returns-in-Number-clause-light c =
    let x = c.args.e.now in
    let is : view_expr x ≡ plain.the_expr x.id.0 x.span (plain.NumberExpr c.in-Number.field-0) =
    number_expr x c.in-Number.field-0 c.in-Number.is in
    on_ok_weaker c.plan-in-Number.result (λ light. omega (arith, light, ap form_weight is)) c.plan-in-Number.ensures.light

pub returns-in-Str-clause-work : goal.returns-in-Str-clause-work
returns-in-Str-clause-work c =
    let x = c.args.e.now in
    let is : view_expr x ≡ plain.the_expr x.id.0 x.span (plain.StrExpr c.in-Str.text) =
    str_expr x c.in-Str.text c.in-Str.is in
    on_ok_weaker c.plan-in-Str.result (λ made rules work read. made rules work ∙ ap (run rules c.args.tasks.now.items) (leaf_form rules x.id.0 (plain.StrExpr c.in-Str.text) work refl) ∙ ap (λ (y : plain.Expr). run rules c.args.tasks.now.items (with_form rules y work)) (sym is)) c.plan-in-Str.ensures.work

pub returns-in-Str-clause-light : goal.returns-in-Str-clause-light
returns-in-Str-clause-light c =
    let x = c.args.e.now in
    let is : view_expr x ≡ plain.the_expr x.id.0 x.span (plain.StrExpr c.in-Str.text) =
    str_expr x c.in-Str.text c.in-Str.is in
    on_ok_weaker c.plan-in-Str.result (λ light. omega (arith, light, ap form_weight is)) c.plan-in-Str.ensures.light

pub returns-in-Vararg-clause-work : goal.returns-in-Vararg-clause-work
returns-in-Vararg-clause-work c =
    let x = c.args.e.now in
    let is : view_expr x ≡ plain.the_expr x.id.0 x.span (plain.Vararg) =
    vararg_expr x c.in-Vararg.is in
    on_ok_weaker c.plan-in-Vararg.result (λ made rules work read. made rules work ∙ ap (run rules c.args.tasks.now.items) (leaf_form rules x.id.0 (plain.Vararg) work refl) ∙ ap (λ (y : plain.Expr). run rules c.args.tasks.now.items (with_form rules y work)) (sym is)) c.plan-in-Vararg.ensures.work

pub returns-in-Vararg-clause-light : goal.returns-in-Vararg-clause-light
returns-in-Vararg-clause-light c =
    let x = c.args.e.now in
    let is : view_expr x ≡ plain.the_expr x.id.0 x.span (plain.Vararg) =
    vararg_expr x c.in-Vararg.is in
    on_ok_weaker c.plan-in-Vararg.result (λ light. omega (arith, light, ap form_weight is)) c.plan-in-Vararg.ensures.light

pub returns-in-Name-clause-work : goal.returns-in-Name-clause-work
returns-in-Name-clause-work c =
    let x = c.args.e.now in
    let is : view_expr x ≡ plain.the_expr x.id.0 x.span (plain.NameExpr c.in-Name.field-0) =
    name_expr x c.in-Name.field-0 c.in-Name.is in
    on_ok_weaker c.plan-in-Name.result (λ made rules work read. made rules work ∙ ap (λ (y : plain.Expr). run rules c.args.tasks.now.items (with_name rules y work)) is ∙ ap (run rules c.args.tasks.now.items) (leaf_form rules x.id.0 (plain.NameExpr c.in-Name.field-0) work refl) ∙ ap (λ (y : plain.Expr). run rules c.args.tasks.now.items (with_form rules y work)) (sym is)) c.plan-in-Name.ensures.work

pub returns-in-Name-clause-light : goal.returns-in-Name-clause-light
returns-in-Name-clause-light c =
    let x = c.args.e.now in
    let is : view_expr x ≡ plain.the_expr x.id.0 x.span (plain.NameExpr c.in-Name.field-0) =
    name_expr x c.in-Name.field-0 c.in-Name.is in
    on_ok_weaker c.plan-in-Name.result (λ light. omega (arith, light, ap form_weight is)) c.plan-in-Name.ensures.light

pub returns-in-Function-clause-work : goal.returns-in-Function-clause-work
returns-in-Function-clause-work c =
    let x = c.args.e.now in
    let is : view_expr x ≡ plain.the_expr x.id.0 x.span (plain.FunctionExpr (view_body c.get.result.now)) =
    function_expr x c.in-Function.body c.in-Function.is
    ∙ ap (λ (z : code.Body.Body). plain.the_expr x.id.0 x.span (plain.FunctionExpr (view_body z))) (sym c.get.ensures) in
    on_ok_weaker c.function.result (λ made rules work read. made rules x.id.0 work ∙ ap (λ (y : plain.Expr). run rules c.args.tasks.now.items (with_form rules y work)) (sym is)) c.function.ensures.work

pub returns-in-Function-clause-light : goal.returns-in-Function-clause-light
returns-in-Function-clause-light c =
    let x = c.args.e.now in
    let is : view_expr x ≡ plain.the_expr x.id.0 x.span (plain.FunctionExpr (view_body c.get.result.now)) =
    function_expr x c.in-Function.body c.in-Function.is
    ∙ ap (λ (z : code.Body.Body). plain.the_expr x.id.0 x.span (plain.FunctionExpr (view_body z))) (sym c.get.ensures) in
    on_ok_weaker c.function.result (λ light. omega (arith, light, ap form_weight is)) c.function.ensures.light

pub returns-in-Index-clause-work : goal.returns-in-Index-clause-work
returns-in-Index-clause-work c =
    let x = c.args.e.now in
    let is : view_expr x ≡ plain.the_expr x.id.0 x.span (plain.Index (view_expr c.get-in-Index.result.now) c.in-Index.name) =
    index_expr x c.in-Index.base c.in-Index.name c.in-Index.is
    ∙ ap (λ (z : code.Expr.Expr). plain.the_expr x.id.0 x.span (plain.Index (view_expr z) c.in-Index.name)) (sym c.get-in-Index.ensures) in
    on_ok_weaker c.index.result (λ made rules work read. made rules x.id.0 work ∙ ap (λ (y : plain.Expr). run rules c.args.tasks.now.items (with_form rules y work)) (sym is)) c.index.ensures.work

pub returns-in-Index-clause-light : goal.returns-in-Index-clause-light
returns-in-Index-clause-light c =
    let x = c.args.e.now in
    let is : view_expr x ≡ plain.the_expr x.id.0 x.span (plain.Index (view_expr c.get-in-Index.result.now) c.in-Index.name) =
    index_expr x c.in-Index.base c.in-Index.name c.in-Index.is
    ∙ ap (λ (z : code.Expr.Expr). plain.the_expr x.id.0 x.span (plain.Index (view_expr z) c.in-Index.name)) (sym c.get-in-Index.ensures) in
    on_ok_weaker c.index.result (λ light. omega (arith, light, ap form_weight is)) c.index.ensures.light

pub returns-in-At-clause-work : goal.returns-in-At-clause-work
returns-in-At-clause-work c =
    let x = c.args.e.now in
    let is : view_expr x ≡ plain.the_expr x.id.0 x.span (plain.At (view_expr c.get-in-At.result.now) (view_expr c.get-in-At-2.result.now)) =
    at_expr x c.in-At.base c.in-At.key c.in-At.is
    ∙ ap (λ (z : code.Expr.Expr). plain.the_expr x.id.0 x.span (plain.At (view_expr z) (view_expr c.in-At.key))) (sym c.get-in-At.ensures)
    ∙ ap (λ (z : code.Expr.Expr). plain.the_expr x.id.0 x.span (plain.At (view_expr c.get-in-At.result.now) (view_expr z))) (sym c.get-in-At-2.ensures) in
    on_ok_weaker c.at.result (λ made rules work read. made rules x.id.0 work ∙ ap (λ (y : plain.Expr). run rules c.args.tasks.now.items (with_form rules y work)) (sym is)) c.at.ensures.work

pub returns-in-At-clause-light : goal.returns-in-At-clause-light
returns-in-At-clause-light c =
    let x = c.args.e.now in
    let is : view_expr x ≡ plain.the_expr x.id.0 x.span (plain.At (view_expr c.get-in-At.result.now) (view_expr c.get-in-At-2.result.now)) =
    at_expr x c.in-At.base c.in-At.key c.in-At.is
    ∙ ap (λ (z : code.Expr.Expr). plain.the_expr x.id.0 x.span (plain.At (view_expr z) (view_expr c.in-At.key))) (sym c.get-in-At.ensures)
    ∙ ap (λ (z : code.Expr.Expr). plain.the_expr x.id.0 x.span (plain.At (view_expr c.get-in-At.result.now) (view_expr z))) (sym c.get-in-At-2.ensures) in
    on_ok_weaker c.at.result (λ light. omega (arith, light, ap form_weight is)) c.at.ensures.light

pub returns-in-Call-clause-work : goal.returns-in-Call-clause-work
returns-in-Call-clause-work c =
    let x = c.args.e.now in
    let is : view_expr x ≡ plain.the_expr x.id.0 x.span (plain.Call (view_expr c.get-in-Call.result.now) (view_exprs c.as_slice.result.now)) =
    call_expr x c.in-Call.callee c.in-Call.args c.in-Call.is
    ∙ ap (λ (z : code.Expr.Expr). plain.the_expr x.id.0 x.span (plain.Call (view_expr z) (view_exprs c.in-Call.args))) (sym c.get-in-Call.ensures)
    ∙ ap (λ (z : List code.Expr.Expr). plain.the_expr x.id.0 x.span (plain.Call (view_expr c.get-in-Call.result.now) (view_exprs z))) (sym c.as_slice.ensures) in
    on_ok_weaker c.call.result (λ made rules work read. made rules x.id.0 x.span work is ∙ ap (λ (y : plain.Expr). run rules c.args.tasks.now.items (with_form rules y work)) (sym is)) c.call.ensures.work

pub returns-in-Call-clause-light : goal.returns-in-Call-clause-light
returns-in-Call-clause-light c =
    let x = c.args.e.now in
    let is : view_expr x ≡ plain.the_expr x.id.0 x.span (plain.Call (view_expr c.get-in-Call.result.now) (view_exprs c.as_slice.result.now)) =
    call_expr x c.in-Call.callee c.in-Call.args c.in-Call.is
    ∙ ap (λ (z : code.Expr.Expr). plain.the_expr x.id.0 x.span (plain.Call (view_expr z) (view_exprs c.in-Call.args))) (sym c.get-in-Call.ensures)
    ∙ ap (λ (z : List code.Expr.Expr). plain.the_expr x.id.0 x.span (plain.Call (view_expr c.get-in-Call.result.now) (view_exprs z))) (sym c.as_slice.ensures) in
    on_ok_weaker c.call.result (λ light. omega (arith, light, ap form_weight is)) c.call.ensures.light

pub returns-in-Method-clause-work : goal.returns-in-Method-clause-work
returns-in-Method-clause-work c =
    let x = c.args.e.now in
    let is : view_expr x ≡ plain.the_expr x.id.0 x.span (plain.Method (view_expr c.get-in-Method.result.now) c.in-Method.name c.in-Method.name_span (view_exprs c.as_slice-in-Method.result.now)) =
    method_expr x c.in-Method.base c.in-Method.name c.in-Method.name_span c.in-Method.args c.in-Method.is
    ∙ ap (λ (z : code.Expr.Expr). plain.the_expr x.id.0 x.span (plain.Method (view_expr z) c.in-Method.name c.in-Method.name_span (view_exprs c.in-Method.args))) (sym c.get-in-Method.ensures)
    ∙ ap (λ (z : List code.Expr.Expr). plain.the_expr x.id.0 x.span (plain.Method (view_expr c.get-in-Method.result.now) c.in-Method.name c.in-Method.name_span (view_exprs z))) (sym c.as_slice-in-Method.ensures) in
    on_ok_weaker c.method.result (λ made rules work read. made rules x.id.0 c.in-Method.name c.in-Method.name_span work ∙ ap (λ (y : plain.Expr). run rules c.args.tasks.now.items (with_form rules y work)) (sym is)) c.method.ensures.work

pub returns-in-Method-clause-light : goal.returns-in-Method-clause-light
returns-in-Method-clause-light c =
    let x = c.args.e.now in
    let is : view_expr x ≡ plain.the_expr x.id.0 x.span (plain.Method (view_expr c.get-in-Method.result.now) c.in-Method.name c.in-Method.name_span (view_exprs c.as_slice-in-Method.result.now)) =
    method_expr x c.in-Method.base c.in-Method.name c.in-Method.name_span c.in-Method.args c.in-Method.is
    ∙ ap (λ (z : code.Expr.Expr). plain.the_expr x.id.0 x.span (plain.Method (view_expr z) c.in-Method.name c.in-Method.name_span (view_exprs c.in-Method.args))) (sym c.get-in-Method.ensures)
    ∙ ap (λ (z : List code.Expr.Expr). plain.the_expr x.id.0 x.span (plain.Method (view_expr c.get-in-Method.result.now) c.in-Method.name c.in-Method.name_span (view_exprs z))) (sym c.as_slice-in-Method.ensures) in
    on_ok_weaker c.method.result (λ light. omega (arith, light, ap form_weight is)) c.method.ensures.light

pub returns-in-Paren-clause-work : goal.returns-in-Paren-clause-work
returns-in-Paren-clause-work c =
    let x = c.args.e.now in
    let is : view_expr x ≡ plain.the_expr x.id.0 x.span (plain.Paren (view_expr c.get-in-Paren.result.now)) =
    paren_expr x c.in-Paren.e c.in-Paren.is
    ∙ ap (λ (z : code.Expr.Expr). plain.the_expr x.id.0 x.span (plain.Paren (view_expr z))) (sym c.get-in-Paren.ensures) in
    on_ok_weaker c.inner.result (λ made rules work read. made rules x.id.0 work ∙ ap (λ (y : plain.Expr). run rules c.args.tasks.now.items (with_form rules y work)) (sym is)) c.inner.ensures.paren

pub returns-in-Paren-clause-light : goal.returns-in-Paren-clause-light
returns-in-Paren-clause-light c =
    let x = c.args.e.now in
    let is : view_expr x ≡ plain.the_expr x.id.0 x.span (plain.Paren (view_expr c.get-in-Paren.result.now)) =
    paren_expr x c.in-Paren.e c.in-Paren.is
    ∙ ap (λ (z : code.Expr.Expr). plain.the_expr x.id.0 x.span (plain.Paren (view_expr z))) (sym c.get-in-Paren.ensures) in
    on_ok_weaker c.inner.result (λ light. omega (arith, light, ap form_weight is)) c.inner.ensures.light

pub returns-in-Unary-clause-work : goal.returns-in-Unary-clause-work
returns-in-Unary-clause-work c =
    let x = c.args.e.now in
    let is : view_expr x ≡ plain.the_expr x.id.0 x.span (plain.Unary c.in-Unary.op (view_expr c.get-in-Unary.result.now)) =
    unary_expr x c.in-Unary.op c.in-Unary.e c.in-Unary.is
    ∙ ap (λ (z : code.Expr.Expr). plain.the_expr x.id.0 x.span (plain.Unary c.in-Unary.op (view_expr z))) (sym c.get-in-Unary.ensures) in
    on_ok_weaker c.unary.result (λ made rules work read. made rules x.id.0 work ∙ ap (λ (y : plain.Expr). run rules c.args.tasks.now.items (with_form rules y work)) (sym is)) c.unary.ensures.work

pub returns-in-Unary-clause-light : goal.returns-in-Unary-clause-light
returns-in-Unary-clause-light c =
    let x = c.args.e.now in
    let is : view_expr x ≡ plain.the_expr x.id.0 x.span (plain.Unary c.in-Unary.op (view_expr c.get-in-Unary.result.now)) =
    unary_expr x c.in-Unary.op c.in-Unary.e c.in-Unary.is
    ∙ ap (λ (z : code.Expr.Expr). plain.the_expr x.id.0 x.span (plain.Unary c.in-Unary.op (view_expr z))) (sym c.get-in-Unary.ensures) in
    on_ok_weaker c.unary.result (λ light. omega (arith, light, ap form_weight is)) c.unary.ensures.light

pub returns-in-Binary-clause-work : goal.returns-in-Binary-clause-work
returns-in-Binary-clause-work c =
    let x = c.args.e.now in
    let is : view_expr x ≡ plain.the_expr x.id.0 x.span (plain.Binary c.in-Binary.op (view_expr c.get-in-Binary.result.now) (view_expr c.get-in-Binary-2.result.now)) =
    binary_expr x c.in-Binary.op c.in-Binary.left c.in-Binary.right c.in-Binary.is
    ∙ ap (λ (z : code.Expr.Expr). plain.the_expr x.id.0 x.span (plain.Binary c.in-Binary.op (view_expr z) (view_expr c.in-Binary.right))) (sym c.get-in-Binary.ensures)
    ∙ ap (λ (z : code.Expr.Expr). plain.the_expr x.id.0 x.span (plain.Binary c.in-Binary.op (view_expr c.get-in-Binary.result.now) (view_expr z))) (sym c.get-in-Binary-2.ensures) in
    on_ok_weaker c.binary.result (λ made rules work read. made rules x.id.0 work ∙ ap (λ (y : plain.Expr). run rules c.args.tasks.now.items (with_form rules y work)) (sym is)) c.binary.ensures.work

pub returns-in-Binary-clause-light : goal.returns-in-Binary-clause-light
returns-in-Binary-clause-light c =
    let x = c.args.e.now in
    let is : view_expr x ≡ plain.the_expr x.id.0 x.span (plain.Binary c.in-Binary.op (view_expr c.get-in-Binary.result.now) (view_expr c.get-in-Binary-2.result.now)) =
    binary_expr x c.in-Binary.op c.in-Binary.left c.in-Binary.right c.in-Binary.is
    ∙ ap (λ (z : code.Expr.Expr). plain.the_expr x.id.0 x.span (plain.Binary c.in-Binary.op (view_expr z) (view_expr c.in-Binary.right))) (sym c.get-in-Binary.ensures)
    ∙ ap (λ (z : code.Expr.Expr). plain.the_expr x.id.0 x.span (plain.Binary c.in-Binary.op (view_expr c.get-in-Binary.result.now) (view_expr z))) (sym c.get-in-Binary-2.ensures) in
    on_ok_weaker c.binary.result (λ light. omega (arith, light, ap form_weight is)) c.binary.ensures.light

pub returns-in-IfElse-clause-work : goal.returns-in-IfElse-clause-work
returns-in-IfElse-clause-work c =
    let x = c.args.e.now in
    let is : view_expr x ≡ plain.the_expr x.id.0 x.span (plain.IfElse (view_choices c.as_slice-in-IfElse.result.now) (view_expr c.get-in-IfElse.result.now)) =
    if_else_expr x c.in-IfElse.arms c.in-IfElse.last c.in-IfElse.is
    ∙ ap (λ (z : List code.Choice.Choice). plain.the_expr x.id.0 x.span (plain.IfElse (view_choices z) (view_expr c.in-IfElse.last))) (sym c.as_slice-in-IfElse.ensures)
    ∙ ap (λ (z : code.Expr.Expr). plain.the_expr x.id.0 x.span (plain.IfElse (view_choices c.as_slice-in-IfElse.result.now) (view_expr z))) (sym c.get-in-IfElse.ensures) in
    on_ok_weaker c.if_else.result (λ made rules work read. made rules x.id.0 work ∙ ap (λ (y : plain.Expr). run rules c.args.tasks.now.items (with_form rules y work)) (sym is)) c.if_else.ensures.work

pub returns-in-IfElse-clause-light : goal.returns-in-IfElse-clause-light
returns-in-IfElse-clause-light c =
    let x = c.args.e.now in
    let is : view_expr x ≡ plain.the_expr x.id.0 x.span (plain.IfElse (view_choices c.as_slice-in-IfElse.result.now) (view_expr c.get-in-IfElse.result.now)) =
    if_else_expr x c.in-IfElse.arms c.in-IfElse.last c.in-IfElse.is
    ∙ ap (λ (z : List code.Choice.Choice). plain.the_expr x.id.0 x.span (plain.IfElse (view_choices z) (view_expr c.in-IfElse.last))) (sym c.as_slice-in-IfElse.ensures)
    ∙ ap (λ (z : code.Expr.Expr). plain.the_expr x.id.0 x.span (plain.IfElse (view_choices c.as_slice-in-IfElse.result.now) (view_expr z))) (sym c.get-in-IfElse.ensures) in
    on_ok_weaker c.if_else.result (λ light. omega (arith, light, ap form_weight is)) c.if_else.ensures.light

pub returns-in-Table-clause-work : goal.returns-in-Table-clause-work
returns-in-Table-clause-work c =
    let x = c.args.e.now in
    let is : view_expr x ≡ plain.the_expr x.id.0 x.span (plain.TableExpr (view_items c.as_slice-in-Table.result.now)) =
    table_expr x c.in-Table.items c.in-Table.is
    ∙ ap (λ (z : List code.Item.Item). plain.the_expr x.id.0 x.span (plain.TableExpr (view_items z))) (sym c.as_slice-in-Table.ensures) in
    on_ok_weaker c.table.result (λ made rules work read. made rules x.id.0 work read ∙ ap (λ (y : plain.Expr). run rules c.args.tasks.now.items (with_form rules y work)) (sym is)) c.table.ensures.work

pub returns-in-Table-clause-light : goal.returns-in-Table-clause-light
returns-in-Table-clause-light c =
    let x = c.args.e.now in
    let is : view_expr x ≡ plain.the_expr x.id.0 x.span (plain.TableExpr (view_items c.as_slice-in-Table.result.now)) =
    table_expr x c.in-Table.items c.in-Table.is
    ∙ ap (λ (z : List code.Item.Item). plain.the_expr x.id.0 x.span (plain.TableExpr (view_items z))) (sym c.as_slice-in-Table.ensures) in
    on_ok_weaker c.table.result (λ light. omega (arith, light, ap form_weight is)) c.table.ensures.light

pub returns-in-Interp-clause-work : goal.returns-in-Interp-clause-work
returns-in-Interp-clause-work c =
    let x = c.args.e.now in
    let is : view_expr x ≡ plain.the_expr x.id.0 x.span (plain.Interp c.in-Interp.texts (view_exprs c.as_slice-in-Interp.result.now)) =
    interp_expr x c.in-Interp.texts c.in-Interp.parts c.in-Interp.is
    ∙ ap (λ (z : List code.Expr.Expr). plain.the_expr x.id.0 x.span (plain.Interp c.in-Interp.texts (view_exprs z))) (sym c.as_slice-in-Interp.ensures) in
    on_ok_weaker c.interp.result (λ made rules work read. made rules x.id.0 c.in-Interp.texts work ∙ ap (λ (y : plain.Expr). run rules c.args.tasks.now.items (with_form rules y work)) (sym is)) c.interp.ensures.work

pub returns-in-Interp-clause-light : goal.returns-in-Interp-clause-light
returns-in-Interp-clause-light c =
    let x = c.args.e.now in
    let is : view_expr x ≡ plain.the_expr x.id.0 x.span (plain.Interp c.in-Interp.texts (view_exprs c.as_slice-in-Interp.result.now)) =
    interp_expr x c.in-Interp.texts c.in-Interp.parts c.in-Interp.is
    ∙ ap (λ (z : List code.Expr.Expr). plain.the_expr x.id.0 x.span (plain.Interp c.in-Interp.texts (view_exprs z))) (sym c.as_slice-in-Interp.ensures) in
    on_ok_weaker c.interp.result (λ light. omega (arith, light, ap form_weight is)) c.interp.ensures.light

pub returns-in-Assert-clause-work : goal.returns-in-Assert-clause-work
returns-in-Assert-clause-work c =
    let x = c.args.e.now in
    let is : view_expr x ≡ plain.the_expr x.id.0 x.span (plain.Assert (view_expr c.get-in-Assert.result.now) (view_type c.in-Assert.typ)) =
    assert_expr x c.in-Assert.e c.in-Assert.typ c.in-Assert.is
    ∙ ap (λ (z : code.Expr.Expr). plain.the_expr x.id.0 x.span (plain.Assert (view_expr z) (view_type c.in-Assert.typ))) (sym c.get-in-Assert.ensures) in
    on_ok_weaker c.inner-in-Assert.result (λ made rules work read. made rules x.id.0 (view_type c.in-Assert.typ) work ∙ ap (λ (y : plain.Expr). run rules c.args.tasks.now.items (with_form rules y work)) (sym is)) c.inner-in-Assert.ensures.assert

pub returns-in-Assert-clause-light : goal.returns-in-Assert-clause-light
returns-in-Assert-clause-light c =
    let x = c.args.e.now in
    let is : view_expr x ≡ plain.the_expr x.id.0 x.span (plain.Assert (view_expr c.get-in-Assert.result.now) (view_type c.in-Assert.typ)) =
    assert_expr x c.in-Assert.e c.in-Assert.typ c.in-Assert.is
    ∙ ap (λ (z : code.Expr.Expr). plain.the_expr x.id.0 x.span (plain.Assert (view_expr z) (view_type c.in-Assert.typ))) (sym c.get-in-Assert.ensures) in
    on_ok_weaker c.inner-in-Assert.result (λ light. omega (arith, light, ap form_weight is)) c.inner-in-Assert.ensures.light
