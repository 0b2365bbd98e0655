use Rattle.std.proofs.Common.{◌∙◌, ap, refl, sym, subst, arith}
use Rattle.std.proofs.lemmas.Result.{on_ok_weaker}
use Rattle.luau_tree.specs.Tree as plain
use Rattle.luau_tree.specs.View.{view_expr, view_item}
use Rattle.luau_tree.proofs.Views.{field_item_seen, keyed_item_seen, plain_item_seen}
use Rattle.report_work.specs.Expressions as listed
use Rattle.report_plan.specs.Puts.{Puts}
use Rattle.report_plan.specs.Weights.{item_weight}
use Rattle.report_plan.proofs.Plans.{put_as}
use Rattle.report_plan.proofs.items.item.Goals as goal

pub returns-in-Field : goal.returns-in-Field
returns-in-Field c =
    on_ok_weaker c.plan.result
    (λ p. subst (λ (x : plain.Item). Puts c.args.tasks.now.items c.plan.new.tasks.items (λ rules seen. listed.before_item rules seen x) (item_weight x)) (sym (ap view_item c.in-Field.is ∙ field_item_seen _ _))
    (put_as _ _ _ _ _ _ (λ rules seen work. refl) (omega arith) p)) c.plan.ensures

pub returns-in-Plain : goal.returns-in-Plain
returns-in-Plain c =
    on_ok_weaker c.plan-in-Plain.result
    (λ p. subst (λ (x : plain.Item). Puts c.args.tasks.now.items c.plan-in-Plain.new.tasks.items (λ rules seen. listed.before_item rules seen x) (item_weight x)) (sym (ap view_item c.in-Plain.is ∙ plain_item_seen _))
    (put_as _ _ _ _ _ _ (λ rules seen work. refl) (omega arith) p)) c.plan-in-Plain.ensures

pub returns-in-Keyed : goal.returns-in-Keyed
returns-in-Keyed c = on_ok_weaker c.keyed.result (λ p. p (ap view_item c.in-Keyed.is ∙ keyed_item_seen _ _)) c.keyed.ensures
