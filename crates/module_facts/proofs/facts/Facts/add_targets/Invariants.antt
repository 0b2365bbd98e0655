use Rattle.luau_tree.specs.View.{view_exprs}
use Rattle.report_rules.specs.Effects.{any_writes_local, targets_of}
use Rattle.module_facts.specs.Facts.{rules_of_facts}
use Rattle.module_facts.proofs.Touching.{Rest}
use Rattle.module_facts.proofs.facts.Facts.add_targets.Given as goal

abbrev pub invariant-loop-target : goal.invariant-loop-target
invariant-loop-target l = Rest (λ targets local. any_writes_local local (targets_of (rules_of_facts l.self) (view_exprs targets))) l.targets l.target-index l.initial.to.items l.to.items
