use Rattle.std.proofs.Common.{◌≡◌, drop}
use Rattle.luau_tree.specs.View.{view_exprs}
use Rattle.report_rules.specs.Effects as syntax
use Rattle.module_facts.specs.Facts.{rules_of_facts}
use Rattle.module_facts.proofs.facts.Facts.any_in_table.Given as goal

-- a target of the rest is in a table where one of the whole is
abbrev pub invariant-loop-target : goal.invariant-loop-target
invariant-loop-target l = syntax.any_in_table (syntax.targets_of (rules_of_facts l.self) (view_exprs l.targets)) ≡ syntax.any_in_table (syntax.targets_of (rules_of_facts l.self) (view_exprs (drop l.target-index l.targets)))
