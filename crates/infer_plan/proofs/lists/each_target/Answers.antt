use Rattle.std.proofs.Common.{◌+◌, List, refl, ap, ◌∙◌, arith}
use Rattle.luau_tree.specs.declared.tree as code
use Rattle.luau_tree.specs.View.{view_expr, view_exprs}
use Rattle.rule_work.specs.Work.{Work}
use Rattle.rule_work.specs.Moves.{put_aside, taken}
use Rattle.infer_plan.specs.Run.{run}
use Rattle.infer_plan.specs.Steps.{each_target, with_target}
use Rattle.infer_plan.specs.Weights.{expr_weight, exprs_weight}
use Rattle.infer_plan.proofs.Plans.{all_of, more_weight, one_more}
use Rattle.infer_plan.proofs.lists.each_target.Goals as goal

pub loop-i-preserved : goal.loop-i-preserved
loop-i-preserved c =
    let x = c.index-es-i.result in
    let xs = c.args.es.now in
    record {
      work = λ rules work. one_more rules c.args.tasks.now.items c.loop-i.tasks.items c.target.new.tasks.items (λ (ys : List code.Expr.Expr). each_target rules (view_exprs ys)) (λ (w : Work). taken (with_target rules (view_expr x) (put_aside w))) xs x _ c.loop-i.i work
          (c.in_ok-target.ensures.work rules work) c.index-es-i.is c.loop-i-test.true c.loop-i.auto.i refl (c.loop-i.invariant.work rules);
      light = more_weight c.args.tasks.now.items c.loop-i.tasks.items c.target.new.tasks.items (λ (ys : List code.Expr.Expr). exprs_weight (view_exprs ys)) (4 + expr_weight (view_expr x)) xs x _ c.loop-i.i
          c.in_ok-target.ensures.light c.index-es-i.is c.loop-i-test.true c.loop-i.auto.i (omega arith) c.loop-i.invariant.light;
    }

pub returns-clause-work : goal.returns-clause-work
returns-clause-work c =
    λ rules work. c.loop-i.invariant.work rules work ∙ ap (λ (ys : List code.Expr.Expr). run rules c.args.tasks.now.items (each_target rules (view_exprs ys) work)) (all_of c.args.es.now c.loop-i.i (omega arith))

pub returns-clause-light : goal.returns-clause-light
returns-clause-light c =
    omega (arith, c.loop-i.invariant.light, ap (λ (ys : List code.Expr.Expr). exprs_weight (view_exprs ys)) (all_of c.args.es.now c.loop-i.i (omega arith)))
