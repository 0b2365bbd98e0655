use Rattle.std.proofs.Common.{sym, ap, ◌∙◌, arith}
use Rattle.std.specs.Option.{option_copied}
use Rattle.std.proofs.lemmas.Result.{on_ok_weaker}
use Rattle.luau_tree.specs.Tree as plain
use Rattle.luau_tree.specs.View.{view_expr}
use Rattle.report_plan.proofs.Loads.{form_of}
use Rattle.report_plan.proofs.WriteForms.{named_compound, element_compound}
use Rattle.report_plan.proofs.Plans.{put_as}
use Rattle.report_plan.proofs.compounds.element.Goals as goal

pub returns-in-Some : goal.returns-in-Some
returns-in-Some c =
    let e = view_expr c.args.e.now in
    let base = view_expr c.args.base.now in
    let key = view_expr c.args.key.now in
    on_ok_weaker c.field_changed.result (λ p id span is. put_as _ _ _ _ _ _
    (λ rules seen work. named_compound rules seen c.args.op (view_expr c.args.added.now) e id span base key c.in-Some.name.now work is (sym (ap option_copied c.in-Some.is) ∙ c.name_of_key.ensures))
    (omega (arith, form_of e id span (plain.At base key) is)) p) c.field_changed.ensures

pub returns-in-None : goal.returns-in-None
returns-in-None c =
    let e = view_expr c.args.e.now in
    let base = view_expr c.args.base.now in
    let key = view_expr c.args.key.now in
    on_ok_weaker c.plan.result (λ p id span is. put_as _ _ _ _ _ _
    (λ rules seen work. element_compound rules seen c.args.op (view_expr c.args.added.now) e id span base key work is (sym (ap option_copied c.in-None.is) ∙ c.name_of_key.ensures))
    (omega (arith, form_of e id span (plain.At base key) is)) p) c.plan.ensures
