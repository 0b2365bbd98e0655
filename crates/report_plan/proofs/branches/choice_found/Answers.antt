use Rattle.std.proofs.Common.{refl, sym, subst, arith}
use Rattle.std.proofs.lemmas.Result.{on_ok_weaker}
use Rattle.luau_tree.specs.Tree.{Expr, Block}
use Rattle.luau_scope.proofs.Layers.{choice_layer}
use Rattle.report_work.specs.Found.{found_choice}
use Rattle.report_plan.specs.Puts.{Puts}
use Rattle.report_plan.specs.Weights.{choice_weight}
use Rattle.report_plan.proofs.Plans.{put_as}
use Rattle.report_plan.proofs.branches.choice_found.Goals as goal

pub returns : goal.returns
returns c =
    on_ok_weaker c.plan.result
    (λ p. subst (λ (x : Expr × Expr). Puts c.args.tasks.now.items c.plan.new.tasks.items (λ rules seen. found_choice rules seen x.0 x.1) (choice_weight x.0 x.1)) (sym (choice_layer c.args.choice.now))
    (put_as _ _ _ _ _ _ (λ rules seen work. refl) (omega arith) p)) c.plan.ensures
