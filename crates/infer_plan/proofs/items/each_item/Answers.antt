use Rattle.std.proofs.Common.{◌||◌, ◌+◌, Bool, List, refl, sym, ap, ◌∙◌, arith, drop}
use Rattle.luau_tree.specs.declared.tree as code
use Rattle.luau_tree.specs.View.{view_item, view_items}
use Rattle.report_rules.specs.Effects.{effects_of_items, effects_of_item}
use Rattle.rule_work.specs.Work.{Work}
use Rattle.module_facts.specs.Facts.{rules_of_facts}
use Rattle.infer_plan.specs.Run.{run}
use Rattle.infer_plan.specs.Steps.{each_item, with_item}
use Rattle.infer_plan.specs.Weights.{entry_weight, items_weight}
use Rattle.infer_plan.proofs.Plans.{all_of, here, more_weight, one_more, or_swapped}
use Rattle.infer_plan.proofs.SameRules.{item_effects_by, items_effects_by}
use Rattle.infer_plan.proofs.items.each_item.Goals as goal

pub loop-i-preserved : goal.loop-i-preserved
loop-i-preserved c =
    let x = c.index-items-i.result in
    let xs = c.args.items.now in
    let R = rules_of_facts c.args.facts.now in
    record {
      later = or_swapped c.loop-i.later c.item_has_effects-has_effects.result
          ∙ ap (λ (b : Bool). b || c.loop-i.later) c.item_has_effects-has_effects.ensures
          ∙ ap (λ (b : Bool). effects_of_item R (view_item x) || b) c.loop-i.invariant.later
          ∙ sym (ap (λ (ys : List code.Item.Item). effects_of_items R (view_items ys)) (here xs x _ c.loop-i.i c.index-items-i.is c.loop-i-test.true c.loop-i.auto.i));
      work = λ rules work read. one_more rules c.args.tasks.now.items c.loop-i.tasks.items c.item.new.tasks.items (λ (ys : List code.Item.Item). each_item rules (view_items ys)) (λ (w : Work). with_item rules (effects_of_items rules (view_items (drop c.loop-i.i xs))) (view_item x) w) xs x _ c.loop-i.i work
          (c.in_ok-item.ensures.work rules work (c.item_has_effects-has_effects.ensures ∙ item_effects_by c.args.facts.now rules read (view_item x)) ∙ ap (λ (b : Bool). run rules c.loop-i.tasks.items (with_item rules b (view_item x) work)) (c.loop-i.invariant.later ∙ items_effects_by c.args.facts.now rules read (view_items (drop c.loop-i.i xs)))) c.index-items-i.is c.loop-i-test.true c.loop-i.auto.i refl (λ (w : Work). c.loop-i.invariant.work rules w read);
      light = more_weight c.args.tasks.now.items c.loop-i.tasks.items c.item.new.tasks.items (λ (ys : List code.Item.Item). items_weight (view_items ys)) (5 + entry_weight (view_item x)) xs x _ c.loop-i.i
          c.in_ok-item.ensures.light c.index-items-i.is c.loop-i-test.true c.loop-i.auto.i (omega arith) c.loop-i.invariant.light;
    }

pub returns-clause-work : goal.returns-clause-work
returns-clause-work c =
    λ rules work read. c.loop-i.invariant.work rules work read ∙ ap (λ (ys : List code.Item.Item). run rules c.args.tasks.now.items (each_item rules (view_items ys) work)) (all_of c.args.items.now c.loop-i.i (omega arith))

pub returns-clause-light : goal.returns-clause-light
returns-clause-light c =
    omega (arith, c.loop-i.invariant.light, ap (λ (ys : List code.Item.Item). items_weight (view_items ys)) (all_of c.args.items.now c.loop-i.i (omega arith)))
