use Rattle.std.proofs.Common.{◌≡◌, Bool, true, false, refl, sym, ap, ◌∙◌, arith}
use Rattle.std.proofs.lemmas.Result.{on_ok_weaker}
use Rattle.luau_tree.specs.View.{view_expr}
use Rattle.report_plan.specs.Run.{run}
use Rattle.report_plan.proofs.EvForms.{path_form, form_whole}
use Rattle.report_plan.proofs.Loads.{form_load}
use Rattle.report_plan.proofs.forms.expr.Goals as goal

pub returns-then-is_path-clause-work : goal.returns-then-is_path-clause-work
returns-then-is_path-clause-work c =
    on_ok_weaker c.plan.result (λ p rules seen work is. p.work rules seen work ∙ ap (run rules seen c.args.tasks.now.items) (path_form rules seen (view_expr c.args.e.now) work (sym is ∙ c.if-is_path.true))) c.plan.ensures

pub returns-then-is_path-clause-light : goal.returns-then-is_path-clause-light
returns-then-is_path-clause-light c = on_ok_weaker c.plan.result (λ p. omega (arith, p.light, form_load (view_expr c.args.e.now))) c.plan.ensures

pub returns-clause-work : goal.returns-clause-work
returns-clause-work c =
    on_ok_weaker c.form.result (λ p rules seen work is. p.work rules seen work ∙ ap (run rules seen c.args.tasks.now.items) (form_whole rules seen (view_expr c.args.e.now) work (sym is ∙ c.if-is_path.false))) c.form.ensures

pub returns-clause-light : goal.returns-clause-light
returns-clause-light c = on_ok_weaker c.form.result (λ p. omega (arith, p.light, form_load (view_expr c.args.e.now))) c.form.ensures
