use Rattle.std.specs.Prelude.{Option}
use Rattle.std.proofs.Common.{List, ◌+◌, drop, refl, sym, ap, ◌∙◌, arith}
use Rattle.luau_tree.specs.declared.tree as code
use Rattle.luau_tree.specs.View.{view_binds, view_exprs, view_expr}
use Rattle.report_work.specs.Checks.{Named, ValueFor}
use Rattle.report_work.specs.Statements as stated
use Rattle.report_plan.specs.Run.{check_meant}
use Rattle.report_plan.specs.Weights.{checked_weight, expr_weight, exprs_weight, twice}
use Rattle.report_plan.specs.declared.task.CheckTask.TheVariants.{Passed}
use Rattle.report_plan.proofs.ListFacts.{binds_rest}
use Rattle.report_plan.proofs.Plans.{awaits_less, awaits_none, put_one}
use Rattle.report_plan.proofs.writes.each_declared.Goals as goal

pub loop-i-preserved : goal.loop-i-preserved
loop-i-preserved c =
    let x = c.index-values-i.result in
    let i = c.loop-i.i in
    let named = c.args.binds.now in
    let rest = view_exprs (drop (i + 1) c.args.values.now) in
    awaits_less (λ i (es : List code.Expr.Expr). λ rules seen. stated.each_value rules seen (stated.named_of_binds rules (view_binds (drop i named))) (view_exprs es)) (λ es. twice (exprs_weight (view_exprs es)))
    c.args.tasks.now.items c.loop-i.tasks.items c.push.new.self.items c.args.values.now x _ i
    (λ rules seen. stated.passed rules seen (check_meant rules c.declared_check-check.result) (view_expr x)) (checked_weight Passed (expr_weight (view_expr x)))
    (λ rules seen work.
    c.declared_check-check.ensures rules seen (view_expr x) (stated.each_value rules seen (stated.named_of_binds rules (view_binds (drop (i + 1) named))) rest work)
    ∙ ap (λ (names : List (Option Named)). stated.passed rules seen (ValueFor (stated.named_first (stated.named_of_binds rules (view_binds (drop i named))))) (view_expr x) (stated.each_value rules seen names rest work)) (binds_rest rules i named))
    (omega arith)
    (put_one c.loop-i.tasks.items c.push.new.self.items _ c.in_ok-push.ensures.items)
    c.index-values-i.is c.loop-i-test.true c.loop-i.invariant

pub returns : goal.returns
returns c =
    awaits_none (λ i (es : List code.Expr.Expr). λ rules seen. stated.each_value rules seen (stated.named_of_binds rules (view_binds (drop i c.args.binds.now))) (view_exprs es)) (λ es. twice (exprs_weight (view_exprs es)))
    c.args.tasks.now.items c.loop-i.tasks.items c.args.values.now c.loop-i.i c.loop-i-test.false (λ rules seen work. refl) c.loop-i.invariant
