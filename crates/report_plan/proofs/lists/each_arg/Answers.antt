use Rattle.std.proofs.Common.{Bool, ◌+◌, ℕ, List, drop, get_or, refl, sym, ap, ◌∙◌, add-one, arith}
use Rattle.luau_tree.specs.Tree.{Exprs}
use Rattle.luau_tree.specs.declared.tree as code
use Rattle.luau_tree.specs.View.{view_expr, view_exprs}
use Rattle.report_rules.specs.Errors.{expands_as}
use Rattle.report_work.specs.Checks.{ArgumentOf}
use Rattle.report_work.specs.Expressions as listed
use Rattle.report_plan.specs.Run.{checked}
use Rattle.report_plan.specs.Weights.{checked_loads, checked_weight, expr_weight}
use Rattle.report_plan.proofs.Plans.{awaits_less, put_one}
use Rattle.report_plan.proofs.lists.each_arg.Goals as goal

pub loop-i-preserved : goal.loop-i-preserved
loop-i-preserved c =
    let way = c.args.way in
    let callee = view_expr c.args.callee.now in
    let x = c.index-args-i.result in
    let i = c.loop-i.i in
    let rest = view_exprs (drop (i + 1) c.args.args.now) in
    let last = c.expands_at.ensures x ∙ ap (λ (y : code.Expr.Expr). expands_as (view_expr y) rest) (sym c.index-args-i.is) in
    awaits_less (λ i (es : List code.Expr.Expr). λ rules seen. listed.each_arg (checked rules seen way) callee i (view_exprs es)) (λ es. checked_loads way (view_exprs es))
    c.args.tasks.now.items c.loop-i.tasks.items c.push.new.self.items c.args.args.now x x i
    (λ rules seen. checked rules seen way (ArgumentOf callee i c.expands_at.result) (view_expr x)) (checked_weight way (expr_weight (view_expr x)))
    (λ rules seen work.
    ap (λ (b : Bool). checked rules seen way (ArgumentOf callee i b) (view_expr x) (listed.each_arg (checked rules seen way) callee (i + 1) rest work)) last
    ∙ ap (λ (n : ℕ). checked rules seen way (ArgumentOf callee i (expands_as (view_expr x) rest)) (view_expr x) (listed.each_arg (checked rules seen way) callee n rest work)) (omega arith))
    (omega arith)
    (put_one c.loop-i.tasks.items c.push.new.self.items _ c.in_ok-push.ensures.items)
    c.index-args-i.is c.loop-i-test.true c.loop-i.invariant
