use Rattle.luau_tree.specs.View.{view_binds}
use Rattle.luau_run.specs.ReadFolder.{is_among}
use Rattle.report_rules.specs.Effects as syntax
use Rattle.module_facts.specs.Facts.{rules_of_facts}
use Rattle.module_facts.proofs.Touching.{Rest}
use Rattle.module_facts.proofs.facts.Facts.add_binds.Given as goal

abbrev pub invariant-loop-bind : goal.invariant-loop-bind
invariant-loop-bind l = Rest (λ binds local. is_among local (syntax.locals_of_binds (rules_of_facts l.self) (view_binds binds))) l.binds l.bind-index l.initial.to.items l.to.items
