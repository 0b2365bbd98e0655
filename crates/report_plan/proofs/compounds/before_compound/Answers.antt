use Rattle.std.proofs.Common.{◌≡◌, ap, sym, ◌∙◌, arith}
use Rattle.std.proofs.lemmas.Result.{on_ok_weaker}
use Rattle.luau_tree.specs.declared.tree as code
use Rattle.luau_tree.specs.Tree as plain
use Rattle.luau_tree.specs.View.{view_expr}
use Rattle.module_facts.proofs.Forms.{at_expr, index_expr, name_expr}
use Rattle.report_plan.proofs.KindFacts.{bare_compound}
use Rattle.report_plan.proofs.Loads.{form_of, form_some}
use Rattle.report_plan.proofs.WriteForms.{index_compound, name_compound, other_compound}
use Rattle.report_plan.proofs.Plans.{put_as}
use Rattle.report_plan.proofs.compounds.before_compound.Goals as goal

pub returns-in-Index : goal.returns-in-Index
returns-in-Index c =
    let e = c.args.e.now in
    let base = view_expr c.get.result.now in
    let is : view_expr e ≡ plain.the_expr e.id.0 e.span (plain.Index base c.in-Index.name) =
    index_expr e c.in-Index.base c.in-Index.name c.in-Index.is
    ∙ ap (λ (x : code.Expr.Expr). plain.the_expr e.id.0 e.span (plain.Index (view_expr x) c.in-Index.name)) (sym c.get.ensures)
    in
    on_ok_weaker c.field_changed.result
    (λ p. put_as _ _ _ _ _ _ (λ rules seen work. index_compound rules seen c.args.op (view_expr c.args.added.now) (view_expr e) e.id.0 e.span base c.in-Index.name work is)
    (omega (arith, form_of (view_expr e) e.id.0 e.span (plain.Index base c.in-Index.name) is)) p) c.field_changed.ensures

pub returns-in-At : goal.returns-in-At
returns-in-At c =
    let e = c.args.e.now in
    on_ok_weaker c.element.result
    (λ p. p e.id.0 e.span
    (at_expr e c.in-At.base c.in-At.key c.in-At.is
    ∙ ap (λ (x : code.Expr.Expr). plain.the_expr e.id.0 e.span (plain.At (view_expr x) (view_expr c.in-At.key))) (sym c.get-in-At.ensures)
    ∙ ap (λ (x : code.Expr.Expr). plain.the_expr e.id.0 e.span (plain.At (view_expr c.get-in-At.result.now) (view_expr x))) (sym c.get-in-At-2.ensures))) c.element.ensures

pub returns-in-Name : goal.returns-in-Name
returns-in-Name c =
    let e = c.args.e.now in
    let name = c.in-Name.field-0 in
    let is = name_expr e name c.in-Name.is in
    on_ok_weaker c.plan.result
    (λ p. put_as _ _ _ _ _ _ (λ rules seen work. name_compound rules seen c.args.op (view_expr c.args.added.now) (view_expr e) e.id.0 e.span name work is)
    (omega (arith, form_some (view_expr e))) p) c.plan.ensures

pub returns-in_default : goal.returns-in_default
returns-in_default c =
    let e = c.args.e.now in
    on_ok_weaker c.plan-in_default.result
    (λ p. put_as _ _ _ _ _ _
    (λ rules seen work. other_compound rules seen c.args.op (view_expr c.args.added.now) (view_expr e) work
    (λ old behind. bare_compound e c.in_default.not-Index c.in_default.not-At c.in_default.not-Name rules seen old behind))
    (omega (arith, form_some (view_expr e))) p) c.plan-in_default.ensures
