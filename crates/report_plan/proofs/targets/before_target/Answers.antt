use Rattle.std.proofs.Common.{ap, sym, ◌∙◌, arith}
use Rattle.std.proofs.lemmas.Result.{on_ok_weaker}
use Rattle.luau_tree.specs.declared.tree as code
use Rattle.luau_tree.specs.Tree as plain
use Rattle.luau_tree.specs.View.{view_expr}
use Rattle.module_facts.proofs.Forms.{at_expr, index_expr}
use Rattle.report_work.specs.Expressions.{before_target}
use Rattle.report_plan.proofs.KindFacts.{bare_target}
use Rattle.report_plan.proofs.WriteForms.{at_target, index_target, other_target}
use Rattle.report_plan.proofs.Plans.{put_as, put_none, put_of}
use Rattle.report_plan.proofs.targets.before_target.Goals as goal

pub returns-in-Index : goal.returns-in-Index
returns-in-Index c =
    let e = c.args.e.now in
    let base = view_expr c.get.result.now in
    on_ok_weaker c.plan.result
    (λ p. put_of _ _ (λ x. λ rules seen. before_target rules seen x) _ e.id.0 e.span (plain.Index base c.in-Index.name)
    (index_expr e c.in-Index.base c.in-Index.name c.in-Index.is ∙ ap (λ (x : code.Expr.Expr). plain.the_expr e.id.0 e.span (plain.Index (view_expr x) c.in-Index.name)) (sym c.get.ensures))
    (put_as _ _ _ _ _ _ (λ rules seen work. index_target rules seen e.id.0 e.span base c.in-Index.name work) (omega arith) p)) c.plan.ensures

pub returns-in-At : goal.returns-in-At
returns-in-At c =
    let e = c.args.e.now in
    let base = view_expr c.get-in-At-2.result.now in
    let key = view_expr c.get-in-At.result.now in
    on_ok_weaker c.plan-in-At.result
    (λ p. put_of _ _ (λ x. λ rules seen. before_target rules seen x) _ e.id.0 e.span (plain.At base key)
    (at_expr e c.in-At.base c.in-At.key c.in-At.is
    ∙ ap (λ (x : code.Expr.Expr). plain.the_expr e.id.0 e.span (plain.At (view_expr x) (view_expr c.in-At.key))) (sym c.get-in-At-2.ensures)
    ∙ ap (λ (x : code.Expr.Expr). plain.the_expr e.id.0 e.span (plain.At base (view_expr x))) (sym c.get-in-At.ensures))
    (put_as _ _ _ _ _ _ (λ rules seen work. at_target rules seen e.id.0 e.span base key work) (omega arith) p)) c.plan-in-At.ensures

pub returns-in_default : goal.returns-in_default
returns-in_default c =
    put_as _ _ _ _ _ _ (λ rules seen work. other_target rules seen (view_expr c.args.e.now) work (λ behind. bare_target c.args.e.now c.in_default.not-Index c.in_default.not-At rules seen behind)) (omega arith) (put_none c.args.tasks.now.items)
