use Rattle.std.proofs.Common.{List, refl, arith}
use Rattle.luau_tree.specs.declared.tree as code
use Rattle.luau_tree.specs.View.{view_expr, view_exprs}
use Rattle.report_rules.specs.Checks.{count}
use Rattle.report_rules.specs.Effects.{target_of, targets_of}
use Rattle.report_work.specs.Moves.{kept_for_value}
use Rattle.report_work.specs.Statements as stated
use Rattle.report_plan.proofs.Plans.{put_one, puts_begin, puts_more}
use Rattle.report_plan.proofs.writes.each_kept.Goals as goal

pub loop-i-init : goal.loop-i-init
loop-i-init c =
    puts_begin (λ (es : List code.Expr.Expr). λ rules seen. stated.each_kept (targets_of rules (view_exprs es))) (λ es. count (view_exprs es)) (λ x. λ rules seen. kept_for_value (target_of rules (view_expr x))) (λ x. 1)
    c.args.tasks.now.items c.args.targets.now (λ rules seen work. refl)

pub loop-i-preserved : goal.loop-i-preserved
loop-i-preserved c =
    puts_more (λ (es : List code.Expr.Expr). λ rules seen. stated.each_kept (targets_of rules (view_exprs es))) (λ es. count (view_exprs es)) (λ x. λ rules seen. kept_for_value (target_of rules (view_expr x))) (λ x. 1)
    c.args.tasks.now.items c.loop-i.tasks.items c.push.new.self.items c.args.targets.now c.index-targets-i.result _ c.loop-i.i
    (λ x rest rules seen work. refl) (λ x rest. omega arith)
    (put_one c.loop-i.tasks.items c.push.new.self.items _ c.in_ok-push.ensures.items)
    c.index-targets-i.is c.loop-i-test.true c.loop-i.auto.i c.loop-i.invariant
