use Rattle.std.proofs.Common.{refl, sym, subst, arith}
use Rattle.std.proofs.lemmas.Result.{on_ok_weaker}
use Rattle.luau_tree.specs.Tree.{Expr, Block}
use Rattle.luau_scope.proofs.Layers.{arm_layer}
use Rattle.report_work.specs.Statements as stated
use Rattle.report_plan.specs.Puts.{Puts}
use Rattle.report_plan.specs.Weights.{arm_weight}
use Rattle.report_plan.proofs.Plans.{put_as}
use Rattle.report_plan.proofs.branches.arm.Goals as goal

pub returns : goal.returns
returns c =
    on_ok_weaker c.plan.result
    (λ p. subst (λ (x : Expr × Block). Puts c.args.tasks.now.items c.plan.new.tasks.items (λ rules seen. stated.with_arm rules seen x.0 x.1) (arm_weight x.0 x.1)) (sym (arm_layer c.args.arm.now))
    (put_as _ _ _ _ _ _ (λ rules seen work. refl) (omega arith) p)) c.plan.ensures
