use Rattle.luau_tree.specs.View.{view_expr, view_exprs}
use Rattle.report_rules.specs.Effects.{effects}
use Rattle.module_facts.specs.Facts.{rules_of_facts}
use Rattle.module_facts.specs.Later as spec
use Rattle.module_facts.proofs.Counting.{Counted}
use Rattle.module_facts.proofs.facts.Facts.later_effects.Given as goal

abbrev pub invariant-loop-e : goal.invariant-loop-e
invariant-loop-e l = Counted (λ e. effects (rules_of_facts l.self) (view_expr e)) (λ es. spec.later_effects (rules_of_facts l.self) (view_exprs es)) l.es l.e-index l.left l.later.items
