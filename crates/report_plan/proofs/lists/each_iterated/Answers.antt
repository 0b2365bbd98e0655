use Rattle.std.proofs.Common.{◌≡◌, List, [], ◌∷◌, length, refl, sym, subst, arith}
use Rattle.std.proofs.lemmas.Result.{on_ok_weaker}
use Rattle.luau_tree.specs.declared.tree as code
use Rattle.luau_tree.specs.View.{view_exprs}
use Rattle.report_work.specs.Statements as stated
use Rattle.report_plan.specs.declared.task.Task.{Task}
use Rattle.report_plan.specs.Puts.{Puts}
use Rattle.report_plan.specs.Weights.{exprs_weight, twice}
use Rattle.report_plan.proofs.Loads.{passed_loads}
use Rattle.report_plan.proofs.Plans.{put_as, put_both, put_none, put_one}
use Rattle.report_plan.proofs.lists.each_iterated.Goals as goal

-- no values
nothing : (tasks : List Task) (es : List code.Expr.Expr) → length es ≡ 0 → Puts tasks tasks (λ rules seen. stated.each_iterated rules seen (view_exprs es)) (twice (exprs_weight (view_exprs es)))
nothing tasks [] e = put_as _ _ _ _ _ _ (λ rules seen work. refl) (omega arith) (put_none tasks)
nothing tasks (x ∷ es) e = let none : ⊥ = omega (arith, e) in absurd none

pub returns-in-None : goal.returns-in-None
returns-in-None c = nothing c.args.tasks.now.items c.args.values.now c.in-None.ensures.cases

pub returns-in_ok-push-in-Some : goal.returns-in_ok-push-in-Some
returns-in_ok-push-in-Some c =
    on_ok_weaker c.each.result
    (λ p. subst (λ (es : List code.Expr.Expr). Puts c.args.tasks.now.items c.each.new.tasks.items (λ rules seen. stated.each_iterated rules seen (view_exprs es)) (twice (exprs_weight (view_exprs es)))) (sym c.in-Some.ensures.cases.0)
    (put_as _ _ _ _ _ _ (λ rules seen work. refl) (omega (arith, passed_loads (view_exprs c.in-Some.rest.now)))
    (put_both _ _ _ _ _ _ _ (put_one c.args.tasks.now.items c.push.new.self.items _ c.in_ok-push-in-Some.ensures.items) p)))
    c.each.ensures
