use Rattle.std.proofs.Common.{◌≡◌, ◌≤◌, ◌+◌, drop}
use Rattle.luau_tree.specs.View.{view_items}
use Rattle.report_rules.specs.Rules.{Rules}
use Rattle.report_rules.specs.Effects.{effects_of_items}
use Rattle.module_facts.specs.Facts.{rules_of_facts}
use Rattle.infer_plan.specs.Read.{IsReadBy}
use Rattle.rule_work.specs.Work.{Work}
use Rattle.infer_plan.specs.Run.{run}
use Rattle.infer_plan.specs.Steps.{each_item}
use Rattle.infer_plan.specs.Weights.{items_weight, weights}
use Rattle.infer_plan.proofs.items.each_item.Given as goal

-- those from here to the end are done before the tasks that were there
abbrev pub invariant-loop-i : goal.invariant-loop-i
invariant-loop-i l = record {
  later : l.later ≡ effects_of_items (rules_of_facts l.facts) (view_items (drop l.i l.items));
  work : (rules : Rules) (work : Work) → IsReadBy l.facts rules → run rules l.tasks.items work ≡ run rules l.fn.tasks.items (each_item rules (view_items (drop l.i l.items)) work);
  light : weights l.tasks.items ≤ weights l.fn.tasks.items + items_weight (view_items (drop l.i l.items));
}
