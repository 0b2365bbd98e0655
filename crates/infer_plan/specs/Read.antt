-- Rules that read a module as it was found, whatever its static requires give.
use Rattle.std.specs.Prelude.{◌≡◌, None}
use Rattle.type_normal.specs.Kinds.{unknown}
use Rattle.report_rules.specs.Rules.{Rules}
use Rattle.module_facts.specs.Facts.{rules_of_facts}
use Rattle.module_facts.specs.declared.facts.Facts.{Facts}

-- rules, without what static requires give
abbrev pub without_imports : Rules → Rules
without_imports rules = record rules { reading = record (rules.reading) { required = λ id. None }; import = λ id. unknown }

-- the rules are those of a module by these facts, but for what its static requires give
pub record IsReadBy (facts : Facts) (rules : Rules) : Type 0 where
  pub same : without_imports rules ≡ without_imports (rules_of_facts facts)
