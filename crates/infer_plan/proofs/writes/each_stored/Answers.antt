use Rattle.std.proofs.Common.{List, refl, ap, ◌∙◌, arith}
use Rattle.luau_tree.specs.declared.tree as code
use Rattle.luau_tree.specs.View.{view_expr, view_exprs}
use Rattle.report_rules.specs.Effects.{target_of, targets_of, Target}
use Rattle.rule_work.specs.Work.{Work}
use Rattle.infer_plan.specs.Run.{run}
use Rattle.infer_plan.specs.Steps.{each_stored, stored_one}
use Rattle.infer_plan.specs.Weights.{written_weight}
use Rattle.infer_plan.proofs.Plans.{all_of, more_weight, one_more}
use Rattle.infer_plan.proofs.SameRules.{target_by}
use Rattle.infer_plan.proofs.writes.each_stored.Goals as goal

pub loop-i-preserved : goal.loop-i-preserved
loop-i-preserved c =
    let x = c.index-targets-i.result in
    let xs = c.args.targets.now in
    record {
      work = λ rules work read. one_more rules c.args.tasks.now.items c.loop-i.tasks.items c.stored.new.tasks.items (λ (ys : List code.Expr.Expr). each_stored rules c.args.expanding (targets_of rules (view_exprs ys))) (λ (w : Work). stored_one rules c.args.expanding (target_of rules (view_expr x)) w) xs x _ c.loop-i.i work
          (c.in_ok-stored.ensures.work rules work ∙ ap (λ (t : Target). run rules c.loop-i.tasks.items (stored_one rules c.args.expanding t work)) (c.target_of.ensures ∙ target_by c.args.facts.now rules read (view_expr x))) c.index-targets-i.is c.loop-i-test.true c.loop-i.auto.i refl (λ (w : Work). c.loop-i.invariant.work rules w read);
      light = more_weight c.args.tasks.now.items c.loop-i.tasks.items c.stored.new.tasks.items (λ (ys : List code.Expr.Expr). written_weight (view_exprs ys)) (4) xs x _ c.loop-i.i
          c.in_ok-stored.ensures.light c.index-targets-i.is c.loop-i-test.true c.loop-i.auto.i (omega arith) c.loop-i.invariant.light;
    }

pub returns-clause-work : goal.returns-clause-work
returns-clause-work c =
    λ rules work read. c.loop-i.invariant.work rules work read ∙ ap (λ (ys : List code.Expr.Expr). run rules c.args.tasks.now.items (each_stored rules c.args.expanding (targets_of rules (view_exprs ys)) work)) (all_of c.args.targets.now c.loop-i.i (omega arith))

pub returns-clause-light : goal.returns-clause-light
returns-clause-light c =
    omega (arith, c.loop-i.invariant.light, ap (λ (ys : List code.Expr.Expr). written_weight (view_exprs ys)) (all_of c.args.targets.now c.loop-i.i (omega arith)))
