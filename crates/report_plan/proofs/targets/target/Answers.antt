use Rattle.std.proofs.Common.{refl, ap, ◌∙◌, arith}
use Rattle.std.proofs.lemmas.Result.{on_ok_weaker}
use Rattle.luau_tree.specs.View.{view_expr}
use Rattle.report_work.specs.Checks.{WrittenBase}
use Rattle.report_work.specs.Expressions.{before_target}
use Rattle.report_work.specs.Found.{found_parts_as}
use Rattle.report_plan.specs.Run.{run}
use Rattle.report_plan.proofs.Loads.{form_load}
use Rattle.report_plan.proofs.WriteForms.{target_form}
use Rattle.report_plan.proofs.targets.target.Goals as goal

pub returns-clause-work : goal.returns-clause-work
returns-clause-work c =
    let e = view_expr c.args.e.now in
    on_ok_weaker c.before_target.result (λ p rules seen work.
    p.work rules seen work
    ∙ c.in_ok-parts.ensures.work rules seen (before_target rules seen e work)
    ∙ c.in_ok-plan.ensures.work rules seen (found_parts_as rules seen WrittenBase e (before_target rules seen e work))
    ∙ ap (run rules seen c.args.tasks.now.items) (target_form rules seen e work)) c.before_target.ensures

pub returns-clause-light : goal.returns-clause-light
returns-clause-light c =
    on_ok_weaker c.before_target.result
    (λ p. let a = c.in_ok-plan.ensures.light in let b = c.in_ok-parts.ensures.light in omega (arith, p.light, a, b, form_load (view_expr c.args.e.now))) c.before_target.ensures
