use Rattle.std.proofs.Common.{◌||◌, ◌+◌, Bool, List, refl, sym, ap, ◌∙◌, arith, drop}
use Rattle.luau_tree.specs.declared.tree as code
use Rattle.luau_tree.specs.View.{view_expr, view_exprs}
use Rattle.report_rules.specs.Effects.{any_effects, effects}
use Rattle.rule_work.specs.Work.{Work}
use Rattle.module_facts.specs.Facts.{rules_of_facts}
use Rattle.infer_plan.specs.Run.{run}
use Rattle.infer_plan.specs.Steps.{each_value, with_value}
use Rattle.infer_plan.specs.Weights.{expr_weight, exprs_weight}
use Rattle.infer_plan.proofs.Plans.{all_of, here, more_weight, one_more, or_swapped}
use Rattle.infer_plan.proofs.SameRules.{any_effects_by}
use Rattle.infer_plan.proofs.lists.each_value.Goals as goal

pub loop-i-preserved : goal.loop-i-preserved
loop-i-preserved c =
    let x = c.index-es-i.result in
    let xs = c.args.es.now in
    let R = rules_of_facts c.args.facts.now in
    record {
      later = or_swapped c.loop-i.later c.effects-later.result
          ∙ ap (λ (b : Bool). b || c.loop-i.later) c.effects-later.ensures
          ∙ ap (λ (b : Bool). effects R (view_expr x) || b) c.loop-i.invariant.later
          ∙ sym (ap (λ (ys : List code.Expr.Expr). any_effects R (view_exprs ys)) (here xs x _ c.loop-i.i c.index-es-i.is c.loop-i-test.true c.loop-i.auto.i));
      work = λ rules work read. one_more rules c.args.tasks.now.items c.loop-i.tasks.items c.value.new.tasks.items (λ (ys : List code.Expr.Expr). each_value rules (view_exprs ys)) (λ (w : Work). with_value rules (any_effects rules (view_exprs (drop c.loop-i.i xs))) (view_expr x) w) xs x _ c.loop-i.i work
          (c.in_ok-value.ensures.work rules work ∙ ap (λ (b : Bool). run rules c.loop-i.tasks.items (with_value rules b (view_expr x) work)) (c.loop-i.invariant.later ∙ any_effects_by c.args.facts.now rules read (view_exprs (drop c.loop-i.i xs)))) c.index-es-i.is c.loop-i-test.true c.loop-i.auto.i refl (λ (w : Work). c.loop-i.invariant.work rules w read);
      light = more_weight c.args.tasks.now.items c.loop-i.tasks.items c.value.new.tasks.items (λ (ys : List code.Expr.Expr). exprs_weight (view_exprs ys)) (4 + expr_weight (view_expr x)) xs x _ c.loop-i.i
          c.in_ok-value.ensures.light c.index-es-i.is c.loop-i-test.true c.loop-i.auto.i (omega arith) c.loop-i.invariant.light;
    }

pub returns-clause-work : goal.returns-clause-work
returns-clause-work c =
    λ rules work read. c.loop-i.invariant.work rules work read ∙ ap (λ (ys : List code.Expr.Expr). run rules c.args.tasks.now.items (each_value rules (view_exprs ys) work)) (all_of c.args.es.now c.loop-i.i (omega arith))

pub returns-clause-light : goal.returns-clause-light
returns-clause-light c =
    omega (arith, c.loop-i.invariant.light, ap (λ (ys : List code.Expr.Expr). exprs_weight (view_exprs ys)) (all_of c.args.es.now c.loop-i.i (omega arith)))
