use Rattle.std.proofs.Common.{refl, sym, ap, subst, arith}
use Rattle.std.specs.Prelude.{Option}
use Rattle.std.proofs.lemmas.Result.{on_ok_weaker}
use Rattle.luau_tree.specs.declared.tree as code
use Rattle.luau_tree.specs.View.{view_maybe_block}
use Rattle.report_work.specs.Statements as stated
use Rattle.report_plan.specs.Puts.{Puts}
use Rattle.report_plan.specs.Weights.{last_weight}
use Rattle.report_plan.proofs.Plans.{put_none, put_as}
use Rattle.report_plan.proofs.branches.last_block.Goals as goal

pub returns-in-None : goal.returns-in-None
returns-in-None c =
    subst (λ (last : Option code.Block.Block). Puts c.args.tasks.now.items c.args.tasks.now.items (λ rules seen. stated.at_last rules seen (view_maybe_block last)) (last_weight (view_maybe_block last))) (sym c.in-None.is)
    (put_as _ _ _ _ _ _ (λ rules seen work. refl) (omega arith) (put_none c.args.tasks.now.items))

pub returns-in-Some : goal.returns-in-Some
returns-in-Some c =
    on_ok_weaker c.plan.result
    (λ p. subst (λ (last : Option code.Block.Block). Puts c.args.tasks.now.items c.plan.new.tasks.items (λ rules seen. stated.at_last rules seen (view_maybe_block last)) (last_weight (view_maybe_block last))) (sym c.in-Some.is)
    (put_as _ _ _ _ _ _ (λ rules seen work. refl) (omega arith) p)) c.plan.ensures
