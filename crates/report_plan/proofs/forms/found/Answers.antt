use Rattle.std.proofs.Common.{◌≡◌, Bool, refl, sym, ap, ◌∙◌, arith}
use Rattle.std.proofs.lemmas.Result.{on_ok_weaker}
use Rattle.luau_tree.specs.View.{view_expr}
use Rattle.report_work.specs.Checks as plain
use Rattle.report_work.specs.Found.{base_check, found_own, found_parts_as}
use Rattle.report_plan.specs.Run.{check_meant, run}
use Rattle.report_plan.proofs.FoundForms.{found_form}
use Rattle.report_plan.proofs.Loads.{form_load}
use Rattle.report_plan.proofs.forms.found.Goals as goal

pub returns-clause-work : goal.returns-clause-work
returns-clause-work c =
    let e = view_expr c.args.e.now in
    on_ok_weaker c.parts.result (λ p rules seen work is.
    let check = check_meant rules c.args.check in
    p.work rules seen work
    ∙ c.in_ok-plan.ensures.work rules seen (found_parts_as rules seen (check_meant rules c.base_check.result) e work)
    ∙ ap (run rules seen c.args.tasks.now.items)
    (ap (λ (how : plain.Check). found_own rules seen check e (found_parts_as rules seen how e work)) (c.base_check.ensures rules)
    ∙ ap (λ (b : Bool). found_own rules seen check e (found_parts_as rules seen (base_check b) e work)) is
    ∙ found_form rules seen check e work)) c.parts.ensures

pub returns-clause-light : goal.returns-clause-light
returns-clause-light c = on_ok_weaker c.parts.result (λ p. let q = c.in_ok-plan.ensures.light in omega (arith, p.light, q, form_load (view_expr c.args.e.now))) c.parts.ensures
