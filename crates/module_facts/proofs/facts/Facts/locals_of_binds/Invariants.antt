use Rattle.std.proofs.Common.{◌≡◌, ◌++◌, drop, map}
use Rattle.luau_tree.specs.View.{view_binds}
use Rattle.report_rules.specs.Effects as syntax
use Rattle.module_facts.specs.Facts.{rules_of_facts}
use Rattle.module_facts.proofs.facts.Facts.locals_of_binds.Given as goal

-- the locals so far, and those of the rest, are all
abbrev pub invariant-loop-bind : goal.invariant-loop-bind
invariant-loop-bind l = syntax.locals_of_binds (rules_of_facts l.self) (view_binds l.binds)
    ≡ map (λ local. local.0) l.locals.items ++ syntax.locals_of_binds (rules_of_facts l.self) (view_binds (drop l.bind-index l.binds))
