use Rattle.std.proofs.Common.{sym, ap, ◌∙◌, arith}
use Rattle.std.specs.Option.{option_copied}
use Rattle.std.proofs.lemmas.Result.{on_ok_weaker}
use Rattle.luau_tree.specs.View.{view_expr}
use Rattle.report_plan.proofs.EvForms.{named_at, element_form}
use Rattle.report_plan.proofs.Plans.{put_as}
use Rattle.report_plan.proofs.exprs.at.Goals as goal

pub returns-in-Some : goal.returns-in-Some
returns-in-Some c =
    on_ok_weaker c.plan.result (λ p id. put_as _ _ _ _ _ _
    (λ rules seen work. named_at rules seen id (view_expr c.args.base.now) (view_expr c.args.key.now) c.in-Some.name.now work (sym (ap option_copied c.in-Some.is) ∙ c.name_of_key.ensures))
    (omega arith) p) c.plan.ensures

pub returns-in-None : goal.returns-in-None
returns-in-None c =
    on_ok_weaker c.plan-in-None.result (λ p id. put_as _ _ _ _ _ _
    (λ rules seen work. element_form rules seen id (view_expr c.args.base.now) (view_expr c.args.key.now) work (sym (ap option_copied c.in-None.is) ∙ c.name_of_key.ensures))
    (omega arith) p) c.plan-in-None.ensures
