use Rattle.std.proofs.Common.{List, refl, arith}
use Rattle.luau_tree.specs.declared.tree as code
use Rattle.luau_tree.specs.View.{view_expr, view_exprs}
use Rattle.report_work.specs.Checks.{Unchecked}
use Rattle.report_work.specs.Expressions as listed
use Rattle.report_plan.specs.Run.{checked}
use Rattle.report_plan.specs.Weights.{checked_loads, checked_weight, expr_weight}
use Rattle.report_plan.proofs.Plans.{awaits_all, awaits_less, awaits_none, put_one}
use Rattle.report_plan.proofs.lists.each.Goals as goal

pub loop-e-preserved : goal.loop-e-preserved
loop-e-preserved c =
    let way = c.args.way in
    let x = c.e-item.result in
    awaits_less (λ i (es : List code.Expr.Expr). λ rules seen. listed.each (checked rules seen way Unchecked) (view_exprs es)) (λ es. checked_loads way (view_exprs es))
    c.args.tasks.now.items c.loop-e.tasks.items c.push.new.self.items c.args.es.now x _ c.loop-e.e-index
    (λ rules seen. checked rules seen way Unchecked (view_expr x)) (checked_weight way (expr_weight (view_expr x)))
    (λ rules seen work. refl) (omega arith)
    (put_one c.loop-e.tasks.items c.push.new.self.items _ c.in_ok-push.ensures.items)
    c.e-item.is c.loop-e-test.true c.loop-e.invariant

pub returns : goal.returns
returns c =
    awaits_none (λ i (es : List code.Expr.Expr). λ rules seen. listed.each (checked rules seen c.args.way Unchecked) (view_exprs es)) (λ es. checked_loads c.args.way (view_exprs es))
    c.args.tasks.now.items c.loop-e.tasks.items c.args.es.now c.loop-e.e-index c.loop-e-test.false (λ rules seen work. refl) c.loop-e.invariant
