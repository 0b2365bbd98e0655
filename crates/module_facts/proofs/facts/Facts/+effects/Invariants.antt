use Rattle.std.proofs.Common.{◌≡◌, drop}
use Rattle.luau_tree.specs.View.{view_choices, view_exprs, view_items}
use Rattle.report_rules.specs.Effects.{any_effects, effects_of_choices, effects_of_items}
use Rattle.module_facts.specs.Facts.{rules_of_facts}
use Rattle.module_facts.proofs.facts.Facts.+effects.Given as goal

-- the rest of a list has effects where the whole has
abbrev pub invariant-any_effects-loop-e : goal.invariant-any_effects-loop-e
invariant-any_effects-loop-e l = any_effects (rules_of_facts l.self) (view_exprs l.es) ≡ any_effects (rules_of_facts l.self) (view_exprs (drop l.e-index l.es))

abbrev pub invariant-choices_have_effects-loop-arm : goal.invariant-choices_have_effects-loop-arm
invariant-choices_have_effects-loop-arm l = effects_of_choices (rules_of_facts l.self) (view_choices l.arms) ≡ effects_of_choices (rules_of_facts l.self) (view_choices (drop l.arm-index l.arms))

abbrev pub invariant-items_have_effects-loop-item : goal.invariant-items_have_effects-loop-item
invariant-items_have_effects-loop-item l = effects_of_items (rules_of_facts l.self) (view_items l.items) ≡ effects_of_items (rules_of_facts l.self) (view_items (drop l.item-index l.items))
