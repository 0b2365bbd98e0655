use Rattle.std.proofs.Common.{List, refl, arith}
use Rattle.luau_tree.specs.declared.tree as code
use Rattle.luau_tree.specs.View.{view_expr, view_exprs}
use Rattle.report_work.specs.Expressions as listed
use Rattle.report_work.specs.Statements as stated
use Rattle.report_plan.specs.Weights.{expr_weight, targets_weight, twice}
use Rattle.report_plan.proofs.Plans.{awaits_less, awaits_none, put_one}
use Rattle.report_plan.proofs.writes.each_target.Goals as goal

pub loop-target-preserved : goal.loop-target-preserved
loop-target-preserved c =
    let x = c.target-item.result in
    awaits_less (λ i (es : List code.Expr.Expr). λ rules seen. listed.each (stated.with_target rules seen) (view_exprs es)) (λ es. targets_weight (view_exprs es))
    c.args.tasks.now.items c.loop-target.tasks.items c.push.new.self.items c.args.targets.now x _ c.loop-target.target-index
    (λ rules seen. stated.with_target rules seen (view_expr x)) (twice (expr_weight (view_expr x)))
    (λ rules seen work. refl) (omega arith)
    (put_one c.loop-target.tasks.items c.push.new.self.items _ c.in_ok-push.ensures.items)
    c.target-item.is c.loop-target-test.true c.loop-target.invariant

pub returns : goal.returns
returns c =
    awaits_none (λ i (es : List code.Expr.Expr). λ rules seen. listed.each (stated.with_target rules seen) (view_exprs es)) (λ es. targets_weight (view_exprs es))
    c.args.tasks.now.items c.loop-target.tasks.items c.args.targets.now c.loop-target.target-index c.loop-target-test.false (λ rules seen work. refl) c.loop-target.invariant
