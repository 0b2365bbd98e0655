use Rattle.std.proofs.Common.{◌∙◌, ap, sym, subst, arith}
use Rattle.std.proofs.lemmas.Result.{on_ok_weaker}
use Rattle.luau_tree.specs.Tree.{Item}
use Rattle.luau_tree.specs.View.{view_expr, view_item}
use Rattle.report_plan.proofs.Plans.{put_as}
use Rattle.report_plan.proofs.EvForms.{keyed_at}
use Rattle.report_plan.proofs.Loads.{keyed_load}
use Rattle.report_plan.proofs.items.keyed.Goals as goal

pub returns : goal.returns
returns c =
    on_ok_weaker c.plan.result (λ p is. put_as _ _ _ _ _ _
    (λ rules seen work. keyed_at rules seen (view_item c.args.item.now) (view_expr c.args.key.now) (view_expr c.args.value.now) work is)
    (omega (arith, keyed_load (view_item c.args.item.now) (view_expr c.args.key.now) (view_expr c.args.value.now) is)) p) c.plan.ensures
